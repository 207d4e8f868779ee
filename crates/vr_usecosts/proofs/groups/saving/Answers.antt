use Rattle.std.proofs.Common.{◌<◌, ◌+◌, ◌∙◌, length, cond, drop, sym, ap, arith}
use Rattle.std.proofs.lemmas.Int.{ints}
use Rattle.vr_model.specs.declared.records.Group.{Group}
use Rattle.vr_usecosts.specs.Groups.{pay, saved_by}
use Rattle.vr_usecosts.proofs.GroupLemmas.{saved-next}
use Rattle.vr_usecosts.proofs.groups.saving.Goals as goal

pub returns-then-has_node-clause-value : goal.returns-then-has_node-clause-value
returns-then-has_node-clause-value c =
    let groups = c.args.closed.model.now.groups in
    let q : Group = c.get-group.result.now in
    let low : c.loop-g.g < length groups = omega (arith, c.loop-g-test.true, c.len-g-end.ensures) in
    let next = saved-next groups c.args.node c.loop-g.g q low (c.get-group.ensures.value q) in
    let here = ap (λ b. cond b (pay q.penalty) (saved_by (drop (c.loop-g.g + 1) groups) c.args.node)) (sym c.has_node.ensures ∙ c.if-has_node.true) in
    let p = c.penalty.ensures in
    let i = c.loop-g.invariant in
    omega (arith, ints, next, here, p.value, p.range.low, p.range.high, i)

pub loop-g-preserved : goal.loop-g-preserved
loop-g-preserved c =
    let groups = c.args.closed.model.now.groups in
    let q : Group = c.get-group.result.now in
    let low : c.loop-g.g < length groups = omega (arith, c.loop-g-test.true, c.len-g-end.ensures) in
    let next = saved-next groups c.args.node c.loop-g.g q low (c.get-group.ensures.value q) in
    let here = ap (λ b. cond b (pay q.penalty) (saved_by (drop (c.loop-g.g + 1) groups) c.args.node)) (sym c.has_node.ensures ∙ c.if-has_node.false) in
    c.loop-g.invariant ∙ (next ∙ here)
