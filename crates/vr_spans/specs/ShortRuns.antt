-- Small sets, for tests.
use Rattle.std.specs.Prelude.{pos, ◌≤ℤ◌}
use Rattle.vr_spans.specs.declared.runs.Run.{Run}

-- a run of numbers in 0..=100
pub record IsShort (run : Run) : Type 0 where
  pub least : pos 0 ≤ℤ run.lo
  pub in_order : run.lo ≤ℤ run.hi
  pub greatest : run.hi ≤ℤ pos 100
