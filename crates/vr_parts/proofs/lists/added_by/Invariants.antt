use Rattle.std.proofs.Common.{◌≡◌, ◌*◌, take}
use Rattle.vr_model.specs.tables.Numbers.{total_by}
use Rattle.vr_parts.specs.Sums.{part_change}
use Rattle.vr_parts.specs.Bounds.{IsAroundCosts}
use Rattle.vr_parts.proofs.lists.added_by.Given as goal

abbrev pub invariant-loop-k : goal.invariant-loop-k
invariant-loop-k g l = record {
  total : l.total ≡ total_by (part_change (g.C.ListCost.list_cost (g.C.ListCost.of_model l.cost)) l.routes.lists) (take l.k l.change);
  range : IsAroundCosts (10000 * l.k) l.total;
}
