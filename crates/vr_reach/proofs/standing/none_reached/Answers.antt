use Rattle.std.proofs.Common.{◌<◌, length, sym, arith}
use Rattle.vr_steps.proofs.LevelLemmas.{level_is}
use Rattle.vr_reach.proofs.StandingLemmas.{stuck_ends, stuck_more, stuck_stops}
use Rattle.vr_reach.proofs.standing.none_reached.Goals as goal

pub returns-then-len-gt0 : goal.returns-then-len-gt0
returns-then-len-gt0 c =
    let levels = c.args.levels.now in
    let low : c.loop-b.b < length levels = omega arith in
    sym (stuck_stops levels c.loop-b.b c.level.result.now low
    (level_is levels c.loop-b.b c.level.result.now c.level.ensures) (omega (arith, c.len.ensures.value, c.if-len-gt0.true)))

pub loop-b-preserved : goal.loop-b-preserved
loop-b-preserved c =
    let levels = c.args.levels.now in
    let low : c.loop-b.b < length levels = omega arith in
    stuck_more levels c.loop-b.b c.level.result.now low (level_is levels c.loop-b.b c.level.result.now c.level.ensures)
    (omega (arith, c.len.ensures.value, c.if-len-gt0.false)) c.loop-b.invariant

pub returns : goal.returns
returns c = sym (stuck_ends c.args.levels.now c.loop-b.b (omega arith) c.loop-b.invariant)
