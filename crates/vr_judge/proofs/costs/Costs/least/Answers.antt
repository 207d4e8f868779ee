use Rattle.std.proofs.Common.{◌≡◌, ◌∙◌, ◌<◌, ℕ, List, ap, subst, sym}
use Rattle.std.specs.Prelude.{◌-ℤ◌, ◌≤ℤ◌, All}
use Rattle.vr_model.specs.routes.Costs.{arcs_part, cost, fixed_part, penalty_part}
use Rattle.vr_model.specs.declared.records.Model.{Model}
use Rattle.vr_routes.specs.Pieces.{ListAfter, changed, joined, part_at}
use Rattle.vr_routes.specs.Changes.{IsMadeOn}
use Rattle.vr_routes.specs.Tours.{Tours}
use Rattle.vr_earliest.specs.Earlies.{AreEarlies}
use Rattle.vr_earliest.specs.declared.earlies.Early.{Early}
use Rattle.vr_costfilter.specs.GlobalCosts.{global_cost_of, AreSpansKnown}
use Rattle.vr_costfilter.specs.PlanCosts.{soft_and_span, ArePlansKnown}
use Rattle.vr_parts.proofs.PartLemmas.{below-after}
use Rattle.vr_judge.specs.Costs.{AreChangesInRange, KeptCosts, StandsCosts}
use Rattle.vr_judge.proofs.SumLemmas.{adds_as, adds_least, adds_least_as, read_bounded, read_sum}
use Rattle.vr_judge.proofs.costs.Costs.least.Goals as goal
use Rattle.vr_judge.proofs.costs.Costs.least.Goals.{After-least-spans}

pub write_after-requires-clause-nodes : goal.write_after-requires-clause-nodes
write_after-requires-clause-nodes c k low =
    let parts = c.args.change.now in
    let lists : List (List ℕ) = c.args.routes.now.lists in
    let h = c.requires.stands in
    let same : c.args.self.now.plans.model ≡ c.self.inside.earliest.model = h.plans_model
    ∙ sym h.earliest_model ∙ sym (ap (λ k. k.earliest.model) c.self.view_is) in
    subst (λ (m : Model). All (λ node. node < m.nodes) (joined lists (part_at parts k).pieces)) same
    (below-after c.args.self.now.plans.model c.args.routes.now h.plans.of_model h.plans.valid parts c.requires.made k low)

-- what is told of the lists after the change, as the parts see it that stand there
module _ (inside kept : KeptCosts) (seen : inside ≡ kept) (tours : Tours) (h : StandsCosts kept tours) (parts : List ListAfter)
    (made : IsMadeOn tours parts) (rows : List (List Early)) (told : AreEarlies inside.earliest.model tours.lists parts rows) where
  old : StandsCosts inside tours
  old = subst (λ (k : KeptCosts). StandsCosts k tours) (sym seen) h

  plans-told : ArePlansKnown inside.plans rows parts tours
  plans-told = record {
    stands = old.plans;
    made = made;
    earlies = subst (λ (m : Model). AreEarlies m tours.lists parts rows) (old.earliest_model ∙ sym old.plans_model) told;
  }

  spans-told : AreSpansKnown inside.spans rows parts tours
  spans-told = record {
    stands = old.spans;
    made = made;
    earlies = subst (λ (m : Model). AreEarlies m tours.lists parts rows) (old.earliest_model ∙ sym old.spans_model) told;
  }

pub least-plans-requires : goal.least-plans-requires
least-plans-requires c = (
  c.args.routes.now,
  plans-told _ c.args.self.now c.self.view_is c.args.routes.now c.requires.stands
      c.args.change.now c.requires.made c.write_after.new.out c.write_after.ensures,
)

pub least-spans-requires : goal.least-spans-requires
least-spans-requires c = (
  c.args.routes.now,
  spans-told _ c.args.self.now c.self.view_is c.args.routes.now c.requires.stands
      c.args.change.now c.requires.made c.write_after.new.out c.write_after.ensures,
)

bounded : (c : After-least-spans) → AreChangesInRange c.added-arcs.result c.added-fixed.result c.least-groups.result c.least-plans.result c.least-spans.result
bounded c = record {
  arcs_are = c.added-arcs.ensures.range;
  fixed_are = c.added-fixed.ensures.range;
  groups_are = c.least-groups.ensures.range;
  plans_are = c.least-plans.ensures.range;
  spans_are = c.least-spans.ensures.range;
}

pub sum-requires : goal.sum-requires
sum-requires c = read_bounded _ _ _ _ _ (bounded (goal.at.sum-requires c).After-least-spans)

pub returns-clause-least : goal.returns-clause-least
returns-clause-least c valid =
    let h = c.requires.stands in
    let model : Model = c.args.self.now.model in
    let lists : List (List ℕ) = c.args.routes.now.lists in
    let later : List (List ℕ) = changed lists c.args.change.now in
    let seen = c.self.view_is in
    let plans = plans-told _ c.args.self.now seen c.args.routes.now h c.args.change.now c.requires.made c.write_after.new.out c.write_after.ensures in
    let spans = spans-told _ c.args.self.now seen c.args.routes.now h c.args.change.now c.requires.made c.write_after.new.out c.write_after.ensures in
    subst (λ x. x ≤ℤ (cost model later -ℤ cost model lists))
    (sym (read_sum _ _ _ _ _ (bounded (goal.at.returns-clause-least c).After-least-spans) _ c.sum.ensures))
    (adds_least model lists later
    (adds_as arcs_part lists later (ap (λ k. k.arcs.model) seen ∙ h.arcs_model) c.added-arcs.ensures.exact)
    (adds_as fixed_part lists later (ap (λ k. k.fixed.model) seen ∙ h.fixed_model) c.added-fixed.ensures.exact)
    (adds_least_as penalty_part lists later (ap (λ k. k.groups.model) seen ∙ h.groups_model) c.least-groups.ensures.least valid)
    (adds_least_as soft_and_span lists later (ap (λ k. k.plans.model) seen ∙ h.plans_model) (c.least-plans.ensures.least c.args.routes.now plans) valid)
    (adds_least_as global_cost_of lists later (ap (λ k. k.spans.model) seen ∙ h.spans_model) (c.least-spans.ensures.least c.args.routes.now spans) valid))
