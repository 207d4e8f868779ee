use Rattle.std.proofs.Common.{◌≡◌, ℕ, w64, to_z, of_z, subst, arith}
use Rattle.std.proofs.lemmas.Int.{ints}
use Rattle.std.specs.Prelude.{ℤ, ◌+ℤ◌, ◌≤ℤ◌}
use Rattle.vr_arccosts.specs.Runs.{gap_added}
use Rattle.vr_arccosts.proofs.RunLemmas.{one-more}
use Rattle.vr_arccosts.proofs.gaps.first_gap.Goals as goal

pub loop-t-preserved : goal.loop-t-preserved
loop-t-preserved c =
    let gap : ℕ → ℤ = gap_added c.args.put.now.line.now.costs.model.now c.args.put.now.line.now.costs.vehicle
    c.args.put.now.line.now.list.now c.args.put.now.ends.first c.args.put.now.ends.last in
    let base = c.args.put.now.sound.range in
    let put = c.ends_added.ensures in
    one-more (λ t. c.args.asked.bound ≤ℤ (to_z w64 (of_z w64 c.args.put.now.base) +ℤ gap t)) c.args.asked.from c.loop-t.t c.loop-t.invariant
    (let no = c.if-base-ends_added.false in omega (arith, ints, put.value, put.range.low, put.range.high, base.low, base.high, no))

pub returns-then-base-ends_added-clause-no_less : goal.returns-then-base-ends_added-clause-no_less
returns-then-base-ends_added-clause-no_less c t low high =
    let base = c.args.put.now.sound.range in
    let is : to_z w64 (of_z w64 c.args.put.now.base) ≡ c.args.put.now.base = omega (arith, ints, base.low, base.high) in
    let gap = gap_added c.args.put.now.line.now.costs.model.now c.args.put.now.line.now.costs.vehicle
    c.args.put.now.line.now.list.now c.args.put.now.ends.first c.args.put.now.ends.last t in
    subst (λ b. c.args.asked.bound ≤ℤ (b +ℤ gap)) is (c.loop-t.invariant t low high)

pub returns-clause-no_less : goal.returns-clause-no_less
returns-clause-no_less c t low high =
    let base = c.args.put.now.sound.range in
    let is : to_z w64 (of_z w64 c.args.put.now.base) ≡ c.args.put.now.base = omega (arith, ints, base.low, base.high) in
    let gap = gap_added c.args.put.now.line.now.costs.model.now c.args.put.now.line.now.costs.vehicle
    c.args.put.now.line.now.list.now c.args.put.now.ends.first c.args.put.now.ends.last t in
    let past = c.loop-t-test.false in
    subst (λ b. c.args.asked.bound ≤ℤ (b +ℤ gap)) is (c.loop-t.invariant t low (omega (arith, high, past)))
