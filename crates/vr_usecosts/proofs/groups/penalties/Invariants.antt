use Rattle.std.proofs.Common.{◌≡◌, ◌*◌, take}
use Rattle.vr_model.specs.tables.Numbers.{total_by}
use Rattle.vr_balance.specs.Sums.{IsUpTo}
use Rattle.vr_usecosts.proofs.GroupLemmas.{group_cost}
use Rattle.vr_usecosts.proofs.groups.penalties.Given as goal

-- what the groups so far cost
abbrev pub invariant-loop-g : goal.invariant-loop-g
invariant-loop-g l = record {
  value : l.total ≡ total_by (group_cost l.routes.lists) (take l.g l.closed.model.now.groups);
  range : IsUpTo (1000 * l.g) l.total;
}
