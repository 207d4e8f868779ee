use Rattle.std.proofs.Common.{◌∙◌, refl, ap}
use Rattle.std.proofs.lemmas.Result.{on_err_weaker, on_ok_weaker}
use Rattle.vr_model.specs.routes.Rules.{is_valid}
use Rattle.vr_model.specs.declared.records.Model.{Model}
use Rattle.vr_routes.specs.Pieces.{changed}
use Rattle.vr_routes.specs.Tours.{Tours}
use Rattle.vr_judge.specs.Standing.{IsJudging}
use Rattle.vr_judge.proofs.CommittedLemmas.{holds_as_valid, stands_on}
use Rattle.vr_judge.proofs.judging.JudgingJudge.commit_change.Given.{Over}
use Rattle.vr_judge.proofs.judging.JudgingJudge.commit_change.Goals.{After-commit_by}
use Rattle.vr_judge.proofs.judging.JudgingJudge.commit_change.Goals as goal

-- whatever the answer, the judge has committed the lists of the routes
committed : (g : Over) (c : After-commit_by g) → IsJudging c.args.self.now.model.now c.commit_by.new.routes (g.F.PathFilter.holds c.commit_by.new.filter)
    (g.F.PathFilter.weight c.commit_by.new.filter) (g.F.PathFilter.stands_at c.commit_by.new.filter) c.commit_by.new.costs
committed g c =
    let made = c.commit_by.ensures in
    stands_on c.requires.holds.committed made.visits refl made.same_rule made.same_weight made.filter made.model made.costs

pub commit_by-requires-clause-filter : goal.commit_by-requires-clause-filter
commit_by-requires-clause-filter g c = c.requires.holds.committed.filters

pub commit_by-requires-clause-costs : goal.commit_by-requires-clause-costs
commit_by-requires-clause-costs g c = c.requires.holds.committed.costs_stand

pub commit_by-requires-clause-passes : goal.commit_by-requires-clause-passes
commit_by-requires-clause-passes g c =
    let makes = c.requires.change.lists_are in
    holds_as_valid c.requires.holds.committed c.requires.holds.valid c.requires.well_formed c.args._mv c.requires.mv
    (changed c.args.routes.now.lists c.args.change.now) makes ∙ (ap (is_valid c.args.self.now.model.now) makes ∙ c.requires.valid)

pub commit_by-requires-clause-valid : goal.commit_by-requires-clause-valid
commit_by-requires-clause-valid g c =
    ap (λ (m : Model). is_valid m (changed c.args.routes.now.lists c.args.change.now)) c.requires.holds.committed.costs_model
    ∙ (ap (is_valid c.args.self.now.model.now) c.requires.change.lists_are ∙ c.requires.valid)

pub returns-clause-routes : goal.returns-clause-routes
returns-clause-routes g c =
    on_ok_weaker c.commit_by.result
    (λ is. is ∙ ap {B = Tours} (λ lists. record { visits = c.args.routes.now.visits; lists = lists }) c.requires.change.lists_are)
    c.commit_by.ensures.routes

pub returns-clause-committed : goal.returns-clause-committed
returns-clause-committed g c =
    on_ok_weaker c.commit_by.result (λ _. committed g (goal.at.returns-clause-committed g c).After-commit_by) c.commit_by.ensures.routes

pub returns-clause-committed_stay : goal.returns-clause-committed_stay
returns-clause-committed_stay g c =
    on_err_weaker c.commit_by.result (λ _. committed g (goal.at.returns-clause-committed_stay g c).After-commit_by) c.commit_by.ensures.routes_stay
