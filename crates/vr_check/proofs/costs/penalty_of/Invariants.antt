use Rattle.std.proofs.Common.{◌≡◌, ◌*◌, ◌^◌, take}
use Rattle.vr_model.specs.tables.Numbers.{total_by}
use Rattle.vr_check.specs.Terms.{IsAround}
use Rattle.vr_check.proofs.Totalling.{group_cost}
use Rattle.vr_check.proofs.costs.penalty_of.Given as goal

abbrev pub invariant-loop-g : goal.invariant-loop-g
invariant-loop-g l = record {
  sum : l.total ≡ total_by (group_cost l.lists) (take l.g l.closed.model.now.groups);
  range : IsAround (2 ^ 106 * l.g) l.total;
}
