use Rattle.std.proofs.Common.{length, arith}
use Rattle.vr_steps.specs.Ways.{IsBegunBy}
use Rattle.vr_steps.proofs.LevelLemmas.{none_written, written_more}
use Rattle.vr_steps.proofs.ends.write_further.Goals as goal

pub levels-init : goal.levels-init
levels-init c = none_written (IsBegunBy c.args.way c.args.allowed.now c.args.rows.now) (length c.args.rows.now) c.args.sets.now.items c.requires.long

pub levels-preserved : goal.levels-preserved
levels-preserved c = written_more (IsBegunBy c.args.way c.args.allowed.now c.args.rows.now) (length c.args.rows.now)
    c.levels.b c.levels.sets.items c.write_level.new.set (omega arith) c.levels.invariant c.in_ok-write_level.ensures
