use Rattle.std.proofs.Common.{◌≡◌, ◌<◌, ℕ, List, Option, [], length, get_or}
use Rattle.vr_spans.specs.declared.runs.Run.{Run}
use Rattle.vr_reach.specs.VisitRuns.{AreKnownRuns}
use Rattle.vr_reach.proofs.runs.run_tables.Given as goal

-- the runs of the tables so far
abbrev pub invariant-loop-k : goal.invariant-loop-k
invariant-loop-k l = record {
  one_of_each : length l.found ≡ l.k;
  each : (j : ℕ) (other : Option (List Run)) → j < length l.found → AreKnownRuns (get_or l.tables j []) (get_or l.found j other);
}
