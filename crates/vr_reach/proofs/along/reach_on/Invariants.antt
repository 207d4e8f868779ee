use Rattle.std.proofs.Common.{◌≡◌, ◌≤◌, suc, length}
use Rattle.vr_reach.specs.DrivenRows.{IsReachedOn}
use Rattle.vr_reach.proofs.SweepLemmas.{HoldUpto}
use Rattle.vr_reach.proofs.along.reach_on.Given as goal

-- the rows of the stops up to k are those of the list
abbrev pub invariant-loop-k : goal.invariant-loop-k
invariant-loop-k l = record {
  within : l.k ≤ suc (length l.stops.of.list.now);
  long : length l.rows ≡ suc (suc (length l.stops.of.list.now));
  each : HoldUpto (IsReachedOn l.stops.of) l.k l.rows;
}
