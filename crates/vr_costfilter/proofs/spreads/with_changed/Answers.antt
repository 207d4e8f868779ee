use Rattle.std.proofs.Common.{◌≡◌, ◌∙◌, ℕ, List, cond, ap, ap₂, sym, subst, arith, length, to_z, of_z, w64}
use Rattle.std.proofs.lemmas.Int.{ints}
use Rattle.std.specs.Int.{int_max}
use Rattle.std.specs.Prelude.{All}
use Rattle.vr_model.proofs.routes.Lists.{empty_where, not_empty}
use Rattle.vr_plan.proofs.BoundLemmas.{read-cumul}
use Rattle.vr_routes.specs.Pieces.{joined, no_part, part_at, IsWithin}
use Rattle.vr_earliest.specs.Earlies.{IsEarly}
use Rattle.vr_costfilter.specs.EarlyParts.{IsEarlyInRange}
use Rattle.vr_costfilter.proofs.SpreadLemmas.{range-early, reached-early, read-span, same-spread}
use Rattle.vr_costfilter.proofs.spreads.with_changed.Goals as goal

pub at-told-requires-clause-dimension : goal.at-told-requires-clause-dimension
at-told-requires-clause-dimension c =
    let few = c.args.paid.now.early.now.sound.well_formed.number_of_dimensions in
    omega (arith, few, c.args.paid.now.sound.dimension)

pub at-told-requires-clause-part : goal.at-told-requires-clause-part
at-told-requires-clause-part c = omega (arith, c.args.paid.now.early.now.sound.few, c.requires.part)

pub returns-then-nodes_in-eq0-clause-value : goal.returns-then-nodes_in-eq0-clause-value
returns-then-nodes_in-eq0-clause-value c lists are =
    let part = part_at c.args.paid.now.early.now.change.now c.args.k in
    let is : joined lists c.pieces.result.now ≡ joined lists part.pieces = ap (joined lists) c.pieces.ensures.value in
    let within = subst (All (IsWithin lists)) (sym c.pieces.ensures.value) (are.parts_are.each_within c.args.k no_part c.requires.part) in
    let none = c.nodes_in.ensures lists within ∙ ap length is in
    sym (ap
    (λ b. cond b c.args.spread (reached-early c.args.paid.now.early.now.model.now c.args.paid.now.d part.vehicle (joined lists part.pieces) c.args.spread))
    (empty_where (joined lists part.pieces) (omega (arith, none, c.if-nodes_in-eq0.true))))

pub returns-clause-value : goal.returns-clause-value
returns-clause-value c lists are =
    let model = c.args.paid.now.early.now.model.now in
    let d = c.args.paid.now.d in
    let part = part_at c.args.paid.now.early.now.change.now c.args.k in
    let list : List ℕ = joined lists part.pieces in
    let early = c.at-told.result in
    let e : IsEarly model d part.vehicle list early = subst (IsEarly model d part.vehicle list) (sym c.at-told.ensures)
    (are.earlies.each d c.args.paid.now.sound.dimension (λ unpaid. c.args.paid.now.sound.pays unpaid.global) c.args.k c.requires.part) in
    let r = c.requires.range in
    let s = c.args.spread in
    let is : joined lists c.pieces.result.now ≡ list = ap (joined lists) c.pieces.ensures.value in
    let within = subst (All (IsWithin lists)) (sym c.pieces.ensures.value) (are.parts_are.each_within c.args.k no_part c.requires.part) in
    let some = c.nodes_in.ensures lists within ∙ ap length is in
    let last : to_z w64 (of_z w64 c.max.result) ≡ c.max.result = omega (arith, ints, c.max.type_inv) in
    let span : to_z w64 (of_z w64 c.max-2.result) ≡ c.max-2.result = omega (arith, ints, c.max-2.type_inv) in
    same-spread _ (reached-early model d part.vehicle list s)
    (last ∙ c.max.ensures.value ∙ ap₂ (λ x y. int_max x y) (read-cumul s.last r.last) (read-cumul early.last e.last_range ∙ e.last))
    (read-cumul s.start r.start)
    (span ∙ c.max-2.ensures.value ∙ ap₂ (λ x y. int_max x y) (read-span s.span r.span) (read-span early.span e.span_range ∙ e.span))
    ∙ sym (ap (λ b. cond b s (reached-early model d part.vehicle list s)) (not_empty list (omega (arith, some, c.if-nodes_in-eq0.false))))

pub returns-clause-range : goal.returns-clause-range
returns-clause-range c =
    let d = c.args.paid.now.d in
    let early = c.at-told.result in
    let e : IsEarlyInRange early = subst IsEarlyInRange (sym c.at-told.ensures)
    (c.args.paid.now.early.now.sound.range d c.args.paid.now.sound.dimension (λ unpaid. c.args.paid.now.sound.pays unpaid.global) c.args.k c.requires.part) in
    let r = c.requires.range in
    let last : to_z w64 (of_z w64 c.max.result) ≡ c.max.result = omega (arith, ints, c.max.type_inv) in
    let span : to_z w64 (of_z w64 c.max-2.result) ≡ c.max-2.result = omega (arith, ints, c.max-2.type_inv) in
    range-early early e.last e.span c.args.spread _ r
    (last ∙ c.max.ensures.value ∙ ap₂ (λ x y. int_max x y) (read-cumul c.args.spread.last r.last) (read-cumul early.last e.last))
    (read-cumul c.args.spread.start r.start)
    (span ∙ c.max-2.ensures.value ∙ ap₂ (λ x y. int_max x y) (read-span c.args.spread.span r.span) (read-span early.span e.span))
