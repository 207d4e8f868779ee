use Rattle.std.proofs.Common.{◌≡◌, ◌≤◌, suc, length}
use Rattle.vr_reach.specs.DrivenRows.{IsReachingOn}
use Rattle.vr_reach.proofs.SweepLemmas.{HoldFrom}
use Rattle.vr_reach.proofs.along.reach_back.Given as goal

-- the rows of the stops from k on are those of the list
abbrev pub invariant-stops : goal.invariant-stops
invariant-stops l = record {
  within : l.k ≤ suc (length l.stops.of.list.now);
  long : length l.rows ≡ suc (suc (length l.stops.of.list.now));
  each : HoldFrom (IsReachingOn l.stops.of) l.k l.rows;
}

abbrev pub decreases-stops : goal.decreases-stops
decreases-stops l = l.k
