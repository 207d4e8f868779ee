use Rattle.std.proofs.Common.{◌≡◌, ◌<◌, ℕ, [], true, length, take, get_or}
use Rattle.std.specs.List.{list_all}
use Rattle.vr_spans.specs.declared.runs.Run.{Run}
use Rattle.vr_reach.specs.VisitRuns.{is_single, IsRunOf}
use Rattle.vr_reach.proofs.runs.runs_of.Given as goal

-- the runs of the sets so far
abbrev pub invariant-loop-k : goal.invariant-loop-k
invariant-loop-k l = record {
  one_of_each : length l.runs ≡ l.k;
  each : (j : ℕ) (other : Run) → j < length l.runs → IsRunOf (get_or l.sets j []) (get_or l.runs j other);
  single : list_all is_single (take l.k l.sets) ≡ true;
}
