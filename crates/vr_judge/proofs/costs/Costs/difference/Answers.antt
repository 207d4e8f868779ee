use Rattle.std.proofs.Common.{◌∙◌, refl, sym, ap, subst}
use Rattle.vr_model.specs.routes.Costs.{arcs_part, fixed_part, penalty_part}
use Rattle.vr_routes.specs.Pieces.{changed}
use Rattle.vr_costfilter.specs.GlobalCosts.{global_cost_of}
use Rattle.vr_costfilter.specs.PlanCosts.{soft_and_span}
use Rattle.vr_judge.specs.Costs.{AreChangesInRange, KeptCosts, StandsCosts}
use Rattle.vr_judge.proofs.StandLemmas.{stands-like}
use Rattle.vr_judge.proofs.SumLemmas.{adds_as, adds_whole, read_bounded, read_sum}
use Rattle.vr_judge.proofs.costs.Costs.difference.Goals as goal
use Rattle.vr_judge.proofs.costs.Costs.difference.Goals.{In_ok-spans}

bounded : (c : In_ok-spans) → AreChangesInRange c.added-arcs.result c.added-fixed.result c.added-groups.result c.in_ok-plans.plans c.in_ok-spans.spans
bounded c = record {
  arcs_are = c.added-arcs.ensures.range;
  fixed_are = c.added-fixed.ensures.range;
  groups_are = c.added-groups.ensures.range;
  plans_are = c.in_ok-plans.ensures.range;
  spans_are = c.in_ok-spans.ensures.range;
}

pub sum-requires : goal.sum-requires
sum-requires c = read_bounded _ _ _ _ _ (bounded (goal.at.sum-requires c).In_ok-spans)

pub returns-clause-exact : goal.returns-clause-exact
returns-clause-exact c =
    let h = c.requires.stands in
    let lists = c.args.routes.now.lists in
    let later = changed lists c.args.change.now in
    let seen = c.self.view_is in
    read_sum _ _ _ _ _ (bounded (goal.at.returns-clause-exact c).In_ok-spans) _ c.sum.ensures
    ∙ adds_whole c.args.self.now.model lists later
    (adds_as arcs_part lists later (ap (λ k. k.arcs.model) seen ∙ h.arcs_model) c.added-arcs.ensures.exact)
    (adds_as fixed_part lists later (ap (λ k. k.fixed.model) seen ∙ h.fixed_model) c.added-fixed.ensures.exact)
    (adds_as penalty_part lists later (ap (λ k. k.groups.model) seen ∙ h.groups_model) c.added-groups.ensures.exact)
    (adds_as soft_and_span lists later (ap (λ k. k.plans.model) seen ∙ h.plans_model) c.in_ok-plans.ensures.exact)
    (adds_as global_cost_of lists later (ap (λ k. k.spans.model) seen ∙ h.spans_model) c.in_ok-spans.ensures.exact)

pub returns-clause-stands : goal.returns-clause-stands
returns-clause-stands c =
    let old = subst (λ (k : KeptCosts). StandsCosts k c.args.routes.now) (sym c.self.view_is) c.requires.stands in
    stands-like _ c.args.routes.now old c.added-arcs.ensures.stays c.added-fixed.ensures.stays c.added-groups.ensures.stays
    c.in_ok-plans.ensures.model c.in_ok-plans.ensures.stands c.in_ok-spans.ensures.model c.in_ok-spans.ensures.stands

pub returns-in_err-spans-clause-stands : goal.returns-in_err-spans-clause-stands
returns-in_err-spans-clause-stands c =
    let old = subst (λ (k : KeptCosts). StandsCosts k c.args.routes.now) (sym c.self.view_is) c.requires.stands in
    stands-like _ c.args.routes.now old c.added-arcs.ensures.stays c.added-fixed.ensures.stays c.added-groups.ensures.stays
    c.in_ok-plans.ensures.model c.in_ok-plans.ensures.stands c.in_err-spans.ensures.model c.in_err-spans.ensures.stands

-- spans were not asked
pub returns-in_err-plans-clause-stands : goal.returns-in_err-plans-clause-stands
returns-in_err-plans-clause-stands c =
    let old = subst (λ (k : KeptCosts). StandsCosts k c.args.routes.now) (sym c.self.view_is) c.requires.stands in
    stands-like _ c.args.routes.now old c.added-arcs.ensures.stays c.added-fixed.ensures.stays c.added-groups.ensures.stays
    c.in_err-plans.ensures.model c.in_err-plans.ensures.stands refl old.spans
