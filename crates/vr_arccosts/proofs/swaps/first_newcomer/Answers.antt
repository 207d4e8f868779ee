use Rattle.std.proofs.Common.{ℕ, List, arith}
use Rattle.std.proofs.lemmas.Int.{ints}
use Rattle.std.specs.Prelude.{◌≤ℤ◌, slice_index}
use Rattle.vr_model.specs.declared.records.Model.{Model}
use Rattle.vr_arccosts.specs.Runs.{swap_added}
use Rattle.vr_arccosts.proofs.RunLemmas.{one-more}
use Rattle.vr_arccosts.proofs.SwapLemmas.{earlier, not-in-front}
use Rattle.vr_arccosts.proofs.swaps.first_newcomer.Goals as goal

pub returns-then-u-asked-clause-no_less : goal.returns-then-u-asked-clause-no_less
returns-then-u-asked-clause-no_less c j low from less =
    let xs : List ℕ = c.args.visits.now in
    let past = c.if-u-asked.true in
    let start = not-in-front xs j c.place_from-start.result c.args.asked.from c.place_from-start.ensures.below from in
    c.loop-k.invariant j start (earlier xs j c.loop-k.k c.requires.ascending low (omega (arith, less, past)))

pub returns-then-swapped-asked-clause-from : goal.returns-then-swapped-asked-clause-from
returns-then-swapped-asked-clause-from c = c.place_from-start.ensures.above c.loop-k.k c.loop-k.auto.k c.loop-k-test.true

pub returns-then-swapped-asked-clause-no_less : goal.returns-then-swapped-asked-clause-no_less
returns-then-swapped-asked-clause-no_less c j low from less =
    let xs : List ℕ = c.args.visits.now in
    let start = not-in-front xs j c.place_from-start.result c.args.asked.from c.place_from-start.ensures.below from in
    c.loop-k.invariant j start (earlier xs j c.loop-k.k c.requires.ascending low less)

pub loop-k-preserved : goal.loop-k-preserved
loop-k-preserved c =
    let model : Model = c.args.line.now.costs.model.now in
    let v = c.args.line.now.costs.vehicle in
    let list : List ℕ = c.args.line.now.list.now in
    let xs : List ℕ = c.args.visits.now in
    let added = c.swapped.ensures in
    let no = c.if-swapped-asked.false in
    one-more (λ j. c.args.asked.bound ≤ℤ swap_added model v list c.args.a (slice_index xs j)) c.place_from-start.result c.loop-k.k c.loop-k.invariant
    (omega (arith, ints, added.value, added.range.low, added.range.high, no))
