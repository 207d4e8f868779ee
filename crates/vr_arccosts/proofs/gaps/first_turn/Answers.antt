use Rattle.std.proofs.Common.{arith}
use Rattle.std.proofs.lemmas.Int.{ints}
use Rattle.std.specs.Prelude.{◌≤ℤ◌}
use Rattle.vr_arccosts.specs.Runs.{turn_added}
use Rattle.vr_arccosts.proofs.RunLemmas.{one-more}
use Rattle.vr_arccosts.proofs.gaps.first_turn.Goals as goal

pub loop-b-preserved : goal.loop-b-preserved
loop-b-preserved c =
    let turned = c.turned.ensures in
    one-more (λ b. c.args.asked.bound ≤ℤ turn_added c.args.line.now.costs.model.now c.args.line.now.costs.vehicle c.args.line.now.list.now c.args.a b)
    c.args.asked.from c.loop-b.b c.loop-b.invariant
    (let no = c.if-turned-asked.false in omega (arith, ints, turned.value, turned.range.low, turned.range.high, no))
