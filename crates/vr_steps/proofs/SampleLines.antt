-- Runs of cumuls, for tests.
use Rattle.std.proofs.Common.{suc, List, [], ◌∷◌, inl, inr, arith}
use Rattle.std.specs.Prelude.{All}
use Rattle.std.proofs.lemmas.Int.{ints}
use Rattle.std.proofs.lemmas.Bool.{or_cases}
use Rattle.vr_spans.specs.declared.runs.Run.{Run}
use Rattle.vr_spans.specs.Runs.{has, in_run}
use Rattle.vr_steps.specs.Levels.{IsCumuls}
use Rattle.vr_steps.specs.CumulRuns.{IsCumulRun}

-- the numbers of runs of cumuls are cumuls
pub runs_are_cumuls : (runs : List Run) → All IsCumulRun runs → IsCumuls runs
runs_are_cumuls [] each x is = absurd (cc)
runs_are_cumuls (r ∷ rs) each x is =
    let first = each 0 r (omega arith) in
    elim (or_cases (in_run r x) (has rs x) is) [
      | inl here ↦ grind (arith, ints, here, first.least, first.greatest)
      | inr later ↦ runs_are_cumuls rs (λ k d lt. each (suc k) d (omega arith)) x later
    ]
