use Rattle.std.proofs.Common.{◌∙◌, ℕ, List, false, length, sym, subst}
use Rattle.vr_model.specs.declared.records.Model.{Model}
use Rattle.vr_costfilter.specs.Kept.{AreAllKept}
use Rattle.vr_costfilter.specs.PlanCosts.{AreCosts, KeptPlans, StandsPlans}
use Rattle.vr_parts.proofs.PartLemmas.{small}
use Rattle.vr_costfilter.proofs.plan_cost.PlanCost.over.Goals as goal

pub returns-clause-stands : goal.returns-clause-stands
returns-clause-stands c =
    let lists : List (List ℕ) = c.args.routes.now.lists in
    let model : Model = c.args.lookups.now.closed.model.now in
    let well = c.args.lookups.now.closed.well_formed in
    let s = small model well lists c.requires.valid in
    let kept = c.in_ok-costs in
    let plans : Model → KeptPlans = λ m. record { model = m; costs = kept.costs.items; next = c.new.result.items; is_prepared = false; cumuls = kept.cumuls } in
    let costs = subst (λ m. AreCosts m lists (length lists) kept.costs.items) c.in_ok-rules.ensures kept.ensures.costs in
    let stands : StandsPlans (plans model) c.args.routes.now = record {
      well_formed = well;
      of_model = c.requires.of_model;
      valid = c.requires.valid;
      as_many = s.many;
      many = costs.many ∙ s.many;
      costs = costs.each;
      range = costs.range;
      cumuls = subst (λ m. AreAllKept m lists kept.cumuls) c.in_ok-rules.ensures kept.ensures.cumuls;
    } in
    subst (λ m. StandsPlans (plans m) c.args.routes.now) (sym c.in_ok-rules.ensures) stands
