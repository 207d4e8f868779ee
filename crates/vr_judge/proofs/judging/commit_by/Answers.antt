use Rattle.std.proofs.Common.{◌≡◌, sym, ap₂, subst}
use Rattle.vr_routes.specs.Changes.{after}
use Rattle.vr_routes.specs.Tours.{Tours}
use Rattle.vr_judge.specs.Costs.{StandsCosts}
use Rattle.vr_judge.proofs.judging.commit_by.Given.{Over}
use Rattle.vr_judge.proofs.judging.commit_by.Goals.{After-commit-3}
use Rattle.vr_judge.proofs.judging.commit_by.Goals as goal

-- the routes are those after the change
at : (g : Over) (c : After-commit-3 g) → after c.args.routes.now c.args.change.now ≡ c.commit-3.new.self
at g c = ap₂ {C = Tours} (λ vs ls. record { visits = vs; lists = ls }) (sym c.commit-3.ensures.visits) (sym c.commit-3.ensures.lists)

pub returns-clause-routes : goal.returns-clause-routes
returns-clause-routes g c = sym (at g (goal.at.returns-clause-routes g c).After-commit-3)

pub returns-clause-filter : goal.returns-clause-filter
returns-clause-filter g c =
    subst (g.F.PathFilter.stands_at c.commit-2.new.self) (at g (goal.at.returns-clause-filter g c).After-commit-3) c.commit-2.ensures.stands

pub returns-clause-costs : goal.returns-clause-costs
returns-clause-costs g c =
    subst (StandsCosts c.commit.new.self) (at g (goal.at.returns-clause-costs g c).After-commit-3) c.in_ok-commit.ensures.stands
