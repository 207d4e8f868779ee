use Rattle.std.proofs.Common.{◌≡◌, ◌*◌, take}
use Rattle.vr_balance.specs.Sums.{IsUpTo}
use Rattle.vr_usecosts.specs.Groups.{saved_in}
use Rattle.vr_usecosts.proofs.groups.saved_in.Given as goal

-- what the nodes of the pieces so far save
abbrev pub invariant-loop-k : goal.invariant-loop-k
invariant-loop-k l = record {
  value : l.total ≡ saved_in l.saved l.routes.lists (take l.k l.pieces);
  range : IsUpTo (1000 * l.k) l.total;
}
