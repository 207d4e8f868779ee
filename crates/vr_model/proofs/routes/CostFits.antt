-- The cost of valid lists is bounded.
use Rattle.std.proofs.Common.{List, ℕ, arith}
use Rattle.std.specs.Prelude.{IsTrue, pos, ◌≤ℤ◌, ◌^◌, ◌-◌}
use Rattle.std.proofs.lemmas.Int.{ints}
use Rattle.vr_model.specs.tables.WellFormed.{IsWellFormed}
use Rattle.vr_model.specs.routes.Rules.{is_valid}
use Rattle.vr_model.specs.routes.Costs.{parts_at, assigned, sum_of, cost}
use Rattle.vr_model.specs.routes.CostLaws.{AreBounded, CostsAreBounded}
use Rattle.vr_model.specs.declared.records.Model.{Model}
use Rattle.vr_model.specs.declared.records.Parts.{Parts}
use Rattle.vr_model.proofs.routes.CostBounds.{arcs-up_to, fixed-up_to, global_part-up_to, penalties-up_to, soft_part-up_to, span_part-up_to}

parts_bounded : (model : Model) → IsWellFormed model → (lists : List (List ℕ))
    → IsTrue (is_valid model lists) → AreBounded (parts_at model (assigned model lists))
parts_bounded model well lists valid =
    let arcs = arcs-up_to model well lists valid in
    let fixed = fixed-up_to model well lists valid in
    let spread = global_part-up_to model well lists valid in
    let penalty = penalties-up_to model well lists valid in
    let soft = soft_part-up_to model well lists valid in
    let span = span_part-up_to model well lists valid in
    record {
      arcs = record { at_least = arcs.at_least; at_most = arcs.at_most };
      fixed = record { at_least = fixed.at_least; at_most = fixed.at_most };
      global = record { at_least = spread.at_least; at_most = spread.at_most };
      penalty = record { at_least = penalty.at_least; at_most = penalty.at_most };
      soft = record { at_least = soft.at_least; at_most = soft.at_most };
      span = record { at_least = span.at_least; at_most = span.at_most };
      sum = omega (arith, ints, arcs.at_most, fixed.at_most, spread.at_most, penalty.at_most, soft.at_most, span.at_most);
    }

-- what the parts say of their sum
sum_fits : (parts : Parts) → AreBounded parts → (pos 0 ≤ℤ sum_of parts) × (sum_of parts ≤ℤ pos (2 ^ 63 - 1))
sum_fits parts h = (
  omega (arith, ints, h.arcs.at_least, h.fixed.at_least, h.global.at_least, h.penalty.at_least, h.soft.at_least, h.span.at_least),
  omega (arith, ints, h.sum),
)

pub costs_are_bounded : CostsAreBounded
unfolding cost
costs_are_bounded model well lists valid =
    let parts = parts_bounded model well lists valid in
    let fits = sum_fits (parts_at model (assigned model lists)) parts in
    record { parts = parts; least = fits.0; greatest = fits.1 }
