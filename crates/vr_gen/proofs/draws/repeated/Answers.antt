use Rattle.vr_gen.specs.Draws.{repeated}
use Rattle.vr_gen.proofs.Repeating.{drawn_on}
use Rattle.vr_gen.proofs.draws.repeated.Goals as goal

pub loop-k-preserved : goal.loop-k-preserved
loop-k-preserved g c = drawn_on g.T.Drawn.drawn c.loop-k.all c.push.new.self c.args.count c.loop-k._k c.loop-k.words c.draw_from.new.words
    (repeated g.T.Drawn.drawn c.args.count c.args.words.now) c.draw_from.ensures c.in_ok-push.ensures.ok c.loop-k-test.true c.loop-k.invariant
