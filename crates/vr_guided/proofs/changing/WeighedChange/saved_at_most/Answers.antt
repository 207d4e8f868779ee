use Rattle.std.proofs.Common.{◌≡◌, to_z, of_z, arith}
use Rattle.std.specs.Int.{w128}
use Rattle.std.specs.Prelude.{ℤ, pos, ◌+ℤ◌, ◌-ℤ◌, ◌≤ℤ◌}
use Rattle.std.proofs.lemmas.Int.{ints}
use Rattle.vr_model.specs.search.GuidedSearches.{penalised}
use Rattle.vr_routes.specs.Pieces.{changed, part_at}
use Rattle.vr_guided.specs.Counts.{counted}
use Rattle.vr_guided.specs.Parts.{weight_change}
use Rattle.vr_guided.proofs.PartLemmas.{alone, second_there, together, unchanged}
use Rattle.vr_guided.proofs.changing.WeighedChange.saved_at_most.Goals as goal

one_taken : (before after part saved read : ℤ) → read ≡ saved → pos 0 ≤ℤ (part +ℤ saved) → after -ℤ before ≡ part → (before -ℤ after) ≤ℤ read
one_taken before after part saved read same here sum = omega (arith, ints, same, here, sum)

both_taken : (before after part other saved more read : ℤ) → read ≡ saved +ℤ more → pos 0 ≤ℤ (part +ℤ saved)
    → pos 0 ≤ℤ (other +ℤ more) → after -ℤ before ≡ part +ℤ other → (before -ℤ after) ≤ℤ read
both_taken before after part other saved more read same here there sum = omega (arith, ints, same, here, there, sum)

pub saved_by_part-requires : goal.saved_by_part-requires
saved_by_part-requires c = second_there _ _ c.parts-parts.ensures.value c.parts-parts.ensures.some c.if-parts-eq1.false

pub returns-then-not-is_any-clause-most : goal.returns-then-not-is_any-clause-most
returns-then-not-is_any-clause-most c =
    let it = c.args.self.now.of in
    let none = unchanged it.weights.closed.model.now (counted it.weights.penalties.now) it.routes.now.lists
    (changed it.routes.now.lists c.args.self.now.change.now) (c.is_any.ensures c.if-not-is_any.true) in
    omega (arith, ints, none)

pub returns-then-parts-eq1-clause-most : goal.returns-then-parts-eq1-clause-most
returns-then-parts-eq1-clause-most c =
    let it = c.args.self.now.of in
    let m = it.weights.closed.model.now in
    let p = counted it.weights.penalties.now in
    let lists = it.routes.now.lists in
    let parts = c.args.self.now.change.now in
    let first = c.saved_by_part-first.ensures in
    let same : to_z w128 (of_z w128 c.saved_by_part-first.result) ≡ c.saved_by_part-first.result = omega (arith, ints, first.low, first.high) in
    let sum = alone m p c.args.self.now.parts c.parts-parts.ensures.value c.if-parts-eq1.true in
    one_taken (penalised m p lists) (penalised m p (changed lists parts))
    (weight_change m p lists (part_at parts 0)) c.saved_by_part-first.result _ same first.most sum

pub returns-clause-most : goal.returns-clause-most
returns-clause-most c =
    let it = c.args.self.now.of in
    let m = it.weights.closed.model.now in
    let p = counted it.weights.penalties.now in
    let lists = it.routes.now.lists in
    let parts = c.args.self.now.change.now in
    let first = c.saved_by_part-first.ensures in
    let second = c.saved_by_part.ensures in
    let same : to_z w128 (of_z w128 (to_z w128 (of_z w128 c.saved_by_part-first.result) +ℤ to_z w128 (of_z w128 c.saved_by_part.result)))
    ≡ c.saved_by_part-first.result +ℤ c.saved_by_part.result
    = omega (arith, ints, first.low, first.high, second.low, second.high) in
    let sum = together m p c.args.self.now.parts c.parts-parts.ensures.value c.parts-parts.ensures.some c.parts-parts.ensures.few c.if-parts-eq1.false in
    both_taken (penalised m p lists) (penalised m p (changed lists parts)) (weight_change m p lists (part_at parts 0))
    (weight_change m p lists (part_at parts 1)) c.saved_by_part-first.result c.saved_by_part.result _ same first.most second.most sum
