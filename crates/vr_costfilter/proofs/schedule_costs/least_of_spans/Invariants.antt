use Rattle.std.proofs.Common.{◌≡◌, ◌*◌, ℕ, List}
use Rattle.std.specs.Prelude.{◌*ℤ◌}
use Rattle.vr_model.specs.tables.Numbers.{total_by, below, number_at}
use Rattle.vr_model.specs.tables.Tables.{dimension_at}
use Rattle.vr_plan.specs.Bounds.{cumul_cost, IsAround}
use Rattle.vr_routes.specs.Pieces.{joined, part_at}
use Rattle.vr_earliest.specs.Ways.{least_span}
use Rattle.vr_costfilter.specs.EarlyChanges.{IsEarlyOf}
use Rattle.vr_costfilter.proofs.schedule_costs.least_of_spans.Given as goal

-- what spans cost at least in the dimensions so far
abbrev pub invariant-loop-d : goal.invariant-loop-d
invariant-loop-d l = record {
  sum : (lists : List (List ℕ)) → IsEarlyOf l.early lists
      → l.cost ≡ total_by (λ d. number_at (dimension_at l.early.model.now d).span_costs (part_at l.early.change.now l.k).vehicle
      *ℤ least_span l.early.model.now d (part_at l.early.change.now l.k).vehicle (joined lists (part_at l.early.change.now l.k).pieces)) (below l.d);
  range : IsAround (cumul_cost * l.d) l.cost;
}
