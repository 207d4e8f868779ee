use Rattle.std.proofs.Common.{◌≡◌, ◌∙◌, to_z, of_z, ap₂, sym, arith}
use Rattle.std.specs.Int.{w128}
use Rattle.std.specs.Prelude.{◌+ℤ◌}
use Rattle.std.proofs.lemmas.Int.{ints}
use Rattle.vr_routes.specs.Pieces.{changed}
use Rattle.vr_guided.specs.Counts.{counted}
use Rattle.vr_guided.proofs.PartLemmas.{alone, second_there, together, unchanged}
use Rattle.vr_guided.proofs.changing.WeighedChange.difference.Goals as goal

pub change_of_part-requires : goal.change_of_part-requires
change_of_part-requires c = second_there _ _ c.parts-parts.ensures.value c.parts-parts.ensures.some c.if-parts-eq1.false

pub returns-then-not-is_any-clause-value : goal.returns-then-not-is_any-clause-value
returns-then-not-is_any-clause-value c =
    let it = c.args.self.now.of in
    sym (unchanged it.weights.closed.model.now (counted it.weights.penalties.now) it.routes.now.lists
    (changed it.routes.now.lists c.args.self.now.change.now) (c.is_any.ensures c.if-not-is_any.true))

pub returns-then-parts-eq1-clause-value : goal.returns-then-parts-eq1-clause-value
returns-then-parts-eq1-clause-value c =
    let it = c.args.self.now.of in
    let first = c.change_of_part-first.ensures in
    let same : to_z w128 (of_z w128 c.change_of_part-first.result) ≡ c.change_of_part-first.result =
    omega (arith, ints, first.range.at_least, first.range.at_most) in
    same
    ∙ (first.value
    ∙ sym (alone it.weights.closed.model.now (counted it.weights.penalties.now) c.args.self.now.parts c.parts-parts.ensures.value c.if-parts-eq1.true))

pub returns-clause-value : goal.returns-clause-value
returns-clause-value c =
    let it = c.args.self.now.of in
    let first = c.change_of_part-first.ensures in
    let second = c.change_of_part.ensures in
    let same : to_z w128 (of_z w128 (to_z w128 (of_z w128 c.change_of_part-first.result) +ℤ to_z w128 (of_z w128 c.change_of_part.result)))
    ≡ c.change_of_part-first.result +ℤ c.change_of_part.result
    = omega (arith, ints, first.range.at_least, first.range.at_most, second.range.at_least, second.range.at_most) in
    same ∙ (ap₂ (λ x y. x +ℤ y) first.value second.value
    ∙ sym (together it.weights.closed.model.now (counted it.weights.penalties.now) c.args.self.now.parts
    c.parts-parts.ensures.value c.parts-parts.ensures.some c.parts-parts.ensures.few c.if-parts-eq1.false))
