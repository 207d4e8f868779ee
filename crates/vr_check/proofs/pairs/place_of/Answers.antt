use Rattle.std.proofs.Common.{arith}
use Rattle.vr_model.specs.deciding.Testing.{test_of_eq}
use Rattle.std.proofs.lemmas.Bool.{ne_eqb}
use Rattle.vr_check.proofs.Walks.{place_here, place_later, place_end}
use Rattle.vr_check.proofs.pairs.place_of.Goals as goal

pub returns-then-other-node : goal.returns-then-other-node
returns-then-other-node c =
    let e = place_here c.args.list.now c.loop-k.k c.loop-k-test.true c.args.node 0 (test_of_eq _ _ c.if-other-node.true) in
    omega (arith, e, c.loop-k.invariant)

pub loop-k-preserved : goal.loop-k-preserved
loop-k-preserved c =
    let e = place_later c.args.list.now c.loop-k.k c.loop-k-test.true c.args.node 0 (ne_eqb _ _ c.if-other-node.false) in
    omega (arith, e, c.loop-k.invariant)

pub returns : goal.returns
returns c =
    let e = place_end c.args.list.now c.loop-k.k c.args.node c.loop-k-test.false in
    omega (arith, e, c.loop-k.invariant, c.loop-k-test.false, c.loop-k.auto.k-end)
