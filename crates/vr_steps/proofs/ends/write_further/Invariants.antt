use Rattle.std.proofs.Common.{◌-◌, length}
use Rattle.vr_steps.specs.Ways.{IsBegunBy}
use Rattle.vr_steps.proofs.LevelLemmas.{AreWritten}
use Rattle.vr_steps.proofs.ends.write_further.Given as goal

-- the sets so far are written
abbrev pub invariant-levels : goal.invariant-levels
invariant-levels l = AreWritten (IsBegunBy l.way l.allowed l.rows) (length l.rows) l.b l.sets.items

abbrev pub decreases-levels : goal.decreases-levels
decreases-levels l = length l.rows - l.b
