use Rattle.std.proofs.Common.{◌≡◌, ◌∙◌, ℕ, List, ap, arith}
use Rattle.std.proofs.lemmas.Int.{ints}
use Rattle.std.specs.Prelude.{◌+ℤ◌, ◌≤ℤ◌, slice_index}
use Rattle.vr_model.specs.declared.records.Model.{Model}
use Rattle.vr_arccosts.specs.Runs.{swap_added}
use Rattle.vr_arccosts.proofs.RunLemmas.{one-more}
use Rattle.vr_arccosts.proofs.gaps.first_swap.Goals as goal

pub loop-b-preserved : goal.loop-b-preserved
loop-b-preserved c =
    let model : Model = c.args.line.now.costs.model.now in
    let v = c.args.line.now.costs.vehicle in
    let w = c.args.other.now.costs.vehicle in
    let list : List ℕ = c.args.line.now.list.now in
    let other : List ℕ = c.args.other.now.list.now in
    let one = c.swapped.ensures in
    let two = c.swapped-in-loop-b.ensures in
    let two-is : c.swapped-in-loop-b.result ≡ swap_added model w other c.loop-b.b (slice_index list c.args.a) = two.value
    ∙ ap (λ (m : Model). swap_added m w other c.loop-b.b (slice_index list c.args.a)) c.requires.same in
    one-more (λ b. c.args.asked.bound ≤ℤ (swap_added model v list c.args.a (slice_index other b) +ℤ swap_added model w other b (slice_index list c.args.a)))
    c.args.asked.from c.loop-b.b c.loop-b.invariant
    (let no = c.if-swapped-asked.false in omega (arith, ints, one.value, two-is, one.range.low, one.range.high, two.range.low, two.range.high, no))

pub returns-clause-no_less : goal.returns-clause-no_less
returns-clause-no_less c b low high = let past = c.loop-b-test.false in c.loop-b.invariant b low (omega (arith, high, past))
