use Rattle.std.proofs.Common.{◌-◌, length}
use Rattle.vr_steps.specs.Ways.{IsLevelBy}
use Rattle.vr_steps.proofs.LevelLemmas.{AreWritten}
use Rattle.vr_steps.proofs.crossing.write_further.Given as goal

-- the sets so far are written
abbrev pub invariant-levels : goal.invariant-levels
invariant-levels l = AreWritten (IsLevelBy l.way l.from l.arc.hop l.within l.arc.rows.now) (length l.arc.rows.now) l.k l.sets.items

abbrev pub decreases-levels : goal.decreases-levels
decreases-levels l = length l.arc.rows.now - l.k
