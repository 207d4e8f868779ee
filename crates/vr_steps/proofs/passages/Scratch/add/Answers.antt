use Rattle.std.proofs.Common.{rules, arith}
use Rattle.std.proofs.lemmas.Int.{ints}
use Rattle.vr_spans.specs.Runs.{has}
use Rattle.vr_steps.proofs.ImageLemmas.{led_to, led_nowhere, nothing_more}
use Rattle.vr_steps.proofs.passages.Scratch.add.Goals as goal

pub returns-in_default : goal.returns-in_default
returns-in_default c = λ x. nothing_more (has c.args.set.now x) (led_nowhere _ _ (c.in_default.ensures.none (search rules)) c.args.way _ _ x)

pub returns : goal.returns
returns c =
    let pass = c.by-pass.ensures.open_pass in
    rw c.swap.ensures.x_after
    (led_to c.args.over.now.hop c.args.over.now.rows.now c.in-Some.passage c.in-Some.ensures.some c.args.way c.by-pass.result
    c.by-pass.ensures.exact c.args.from.now c.args.within.now _ _ _ c.args.set.now _ c.requires.from c.requires.within
    c.in_ok-clip_into.ensures.exact c.in_ok-clip_into-2.ensures.exact _ _
    (omega (arith, ints, pass.in_order, pass.from, pass.to)) (omega (arith, ints, pass.in_order, pass.from, pass.to))
    c.in_ok-reach_into.ensures.exact c.in_ok-union_into.ensures.exact)
