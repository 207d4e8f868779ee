use Rattle.std.proofs.Common.{◌≡◌}
use Rattle.std.specs.Prelude.{slice_index_or, IfSome}
use Rattle.vr_model.specs.schedules.Schedules.{no_break}
use Rattle.vr_plan.specs.Narrow.{IsLeastOf, IsStartOf}
use Rattle.vr_plan.proofs.starts.least_start.Given as goal

-- the least of the starts that were tried so far
abbrev pub invariant-loop-place : goal.invariant-loop-place
invariant-loop-place l = record {
  same : l.line ≡ l.fn.line;
  range : IfSome l.best (IsStartOf (slice_index_or l.fn.line.breaks l.i no_break));
  least : IsLeastOf l.fn.line l.cumuls l.i l.ready l.place l.best;
}
