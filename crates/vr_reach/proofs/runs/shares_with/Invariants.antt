use Rattle.std.proofs.Common.{[], ◌∷◌, drop}
use Rattle.vr_spans.specs.Runs.{ShareANumber}
use Rattle.vr_reach.proofs.runs.shares_with.Given as goal

-- what the set shares with the run it shares from place k on
abbrev pub invariant-loop-k : goal.invariant-loop-k
invariant-loop-k l = ShareANumber (l.run ∷ []) l.set → ShareANumber (l.run ∷ []) (drop l.k l.set)
