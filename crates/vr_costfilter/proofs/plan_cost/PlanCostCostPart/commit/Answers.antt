use Rattle.std.proofs.Common.{◌≡◌, ◌∙◌, ◌<◌, ◌+◌, ℕ, List, length, length-set, refl, ap, sym, subst, arith, to_z, of_z, w64}
use Rattle.std.specs.Prelude.{ℤ, pos, slice_set}
use Rattle.vr_model.specs.tables.Numbers.{number_at}
use Rattle.vr_model.specs.routes.Routes.{route}
use Rattle.vr_routes.specs.Pieces.{joined, no_part, part_at}
use Rattle.vr_costfilter.specs.PlanCosts.{plans_cost, IsPlanCost}
use Rattle.vr_costfilter.proofs.PlanLemmas.{read-cost}
use Rattle.vr_parts.proofs.RowLemmas.{rows-set}
use Rattle.vr_parts.proofs.SumLemmas.{upto}
use Rattle.vr_earliest.proofs.WritingLemmas.{upto-put}
use Rattle.vr_costfilter.specs.Known.{AreCumulsAt, IsValidChange}
use Rattle.vr_costfilter.proofs.KnownLemmas.{plans-cumuls}
use Rattle.vr_costfilter.specs.PlanCosts.{KeptPlans}
use Rattle.vr_costfilter.proofs.plan_cost.PlanCostCostPart.commit.Goals as goal

pub loop-k-preserved : goal.loop-k-preserved
loop-k-preserved c =
    let i = c.loop-k.invariant in
    let model = c.args.self.now.model in
    let lists : List (List ℕ) = c.args.routes.now.lists in
    let parts = c.args.change.now in
    let k = c.loop-k.k in
    let rows : List ℤ = c.loop-k.self-inside.costs.items in
    let low = subst (λ n. k < n) c.parts-k-end.ensures.value c.loop-k-test.true in
    let part = part_at parts k in
    let vehicle = c.vehicle.ensures in
    let known = c.requires.made.makes.parts_are.each_vehicle k no_part low in
    let many = i.many in
    let all_many = c.requires.stands.many in
    let as_many = c.requires.stands.as_many in
    let v = c.vehicle.result in
    let base : List (List ℕ) = upto lists parts k in
    let is = ap (λ l. number_at l k) (c.deref.ensures.0 ∙ i.next) in
    let range = c.requires.ready.costed.range k low in
    let cost : ℤ = number_at c.args.self.now.next k in
    let stored : to_z w64 (of_z w64 (number_at c.deref.result.now k)) ≡ cost = ap (λ x. to_z w64 (of_z w64 x)) is ∙ read-cost cost range in
    let value : cost ≡ plans_cost model v (joined lists part.pieces) = c.requires.ready.costed.next k low
    ∙ ap (λ w. plans_cost model w (joined lists part.pieces)) (sym vehicle) in
    let set = rows-set (λ u l x. (x ≡ plans_cost model u l) × IsPlanCost x) (pos 0) base rows v
    (joined lists part.pieces) cost i.costs (omega (arith, vehicle, known, many, all_many, as_many)) (value, range) in
    let next = upto-put lists parts k low vehicle refl in
    record {
      model = i.model;
      cumuls = i.cumuls;
      next = i.next;
      many = length-set rows v _ ∙ many;
      costs = subst (λ x. (u : ℕ) → u < length (upto lists parts (k + 1))
          → (number_at (slice_set rows v x) u ≡ plans_cost model u (route (upto lists parts (k + 1)) u)) × IsPlanCost (number_at (slice_set rows v x) u))
          (sym stored)
          (subst (λ l. (u : ℕ) → u < length l
          → (number_at (slice_set rows v cost) u ≡ plans_cost model u (route l u)) × IsPlanCost (number_at (slice_set rows v cost) u)) next set);
    }

pub commit-requires : goal.commit-requires
commit-requires c = subst (λ (s : KeptPlans). IsValidChange (AreCumulsAt s.model s.cumuls) s.model c.args.routes.now c.args.change.now) (sym c.self.view_is)
    (plans-cumuls c.args.self.now c.args.routes.now c.args.change.now (record { stands = c.requires.stands; made = c.requires.made; valid = c.requires.valid }))
