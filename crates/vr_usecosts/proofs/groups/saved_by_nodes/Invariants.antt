use Rattle.std.proofs.Common.{◌≡◌, take}
use Rattle.vr_model.specs.tables.Numbers.{total_by, number_at}
use Rattle.vr_balance.specs.Sums.{IsUpTo}
use Rattle.vr_usecosts.proofs.groups.saved_by_nodes.Given as goal

-- what the nodes so far save
abbrev pub invariant-loop-k : goal.invariant-loop-k
invariant-loop-k l = record {
  value : l.total ≡ total_by (number_at l.saved) (take l.k l.nodes);
  range : IsUpTo l.k l.total;
}
