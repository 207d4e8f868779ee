use Rattle.std.proofs.Common.{◌≡◌, ◌*◌, ◌+◌, ◌++◌, ◌∷◌, [], drop}
use Rattle.std.specs.Prelude.{map, ◌+ℤ◌, ◌≤ℤ◌, pos}
use Rattle.std.specs.List.{zip}
use Rattle.vr_model.specs.tables.Numbers.{total_by}
use Rattle.vr_model.specs.tables.Tables.{row_of}
use Rattle.vr_model.specs.routes.Costs.{row_cost}
use Rattle.vr_plan.specs.Timings.{soft_of}
use Rattle.vr_plan.specs.Bounds.{cumul_cost, IsAround}
use Rattle.vr_plan.proofs.timings.soft_cost.Given as goal

abbrev pub invariant-loop-k : goal.invariant-loop-k
invariant-loop-k l = record {
  sum : l.cost +ℤ total_by (λ stop. row_cost stop.0 stop.1)
      (zip (map (row_of l.dimension.nodes) (drop l.k l.list) ++ row_of l.dimension.ends l.v ∷ []) (drop (l.k + 1) l.cumuls))
      ≡ soft_of l.dimension l.v l.list l.cumuls;
  low : pos 0 ≤ℤ l.cost;
  range : IsAround (cumul_cost * (l.k + 1)) l.cost;
}
