use Rattle.std.proofs.Common.{length, arith}
use Rattle.vr_steps.specs.Ways.{IsLevelBy}
use Rattle.vr_steps.proofs.LevelLemmas.{none_written, written_more}
use Rattle.vr_steps.proofs.crossing.write_further.Goals as goal

pub levels-init : goal.levels-init
levels-init c = none_written (IsLevelBy c.args.way c.args.from.now c.args.arc.now.hop c.args.within.now c.args.arc.now.rows.now)
    (length c.args.arc.now.rows.now) c.args.sets.now.items c.requires.long

pub levels-preserved : goal.levels-preserved
levels-preserved c = written_more (IsLevelBy c.args.way c.args.from.now c.args.arc.now.hop c.args.within.now c.args.arc.now.rows.now)
    (length c.args.arc.now.rows.now) c.levels.k c.levels.sets.items c.write_level.new.set (omega arith) c.levels.invariant c.in_ok-write_level.ensures
