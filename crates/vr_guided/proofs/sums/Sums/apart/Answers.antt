use Rattle.std.proofs.Common.{◌≡◌, ◌∙◌, ◌<◌, List, ℤ, length, slice_index_or, to_z, of_z, ap, ap₂, subst, arith}
use Rattle.std.specs.Int.{w128}
use Rattle.std.specs.Prelude.{pos, ◌-ℤ◌}
use Rattle.vr_model.specs.tables.Numbers.{number_at}
use Rattle.vr_guided.specs.Sums.{HaveWideRange}
use Rattle.vr_guided.proofs.SumLemmas.{read-between, apart-high, apart-low}
use Rattle.vr_guided.proofs.sums.Sums.apart.Goals as goal

pub returns-clause-value : goal.returns-clause-value
returns-clause-value c =
    let xs : List ℤ = c.args.self.now in
    let range : HaveWideRange xs = subst HaveWideRange c.self.view_is c.self.invariant in
    let order = c.requires.order in
    let place = c.requires.place in
    let few = c.requires.few in
    let low : c.args.from < length xs = omega (arith, order, place) in
    let at_to : slice_index_or c.deref.result.now c.args.to (pos 0) ≡ number_at xs c.args.to = ap (λ l. number_at l c.args.to)
    (c.deref.ensures.0 ∙ c.self.view_is) in
    let at_from : slice_index_or c.deref-2.result.now c.args.from (pos 0) ≡ number_at xs c.args.from = ap (λ l. number_at l c.args.from)
    (c.deref-2.ensures.0 ∙ c.self.view_is) in
    ap₂ (λ x y. to_z w128 (of_z w128 (to_z w128 (of_z w128 x) -ℤ to_z w128 (of_z w128 y)))) at_to at_from
    ∙ read-between (number_at xs c.args.to) (number_at xs c.args.from) c.args.to c.args.from
    (range c.args.to place) (range c.args.from low) few (omega (arith, order, few))

pub returns-clause-high : goal.returns-clause-high
returns-clause-high c =
    let xs : List ℤ = c.args.self.now in
    let range : HaveWideRange xs = subst HaveWideRange c.self.view_is c.self.invariant in
    let order = c.requires.order in
    let place = c.requires.place in
    let few = c.requires.few in
    let low : c.args.from < length xs = omega (arith, order, place) in
    let at_to : slice_index_or c.deref.result.now c.args.to (pos 0) ≡ number_at xs c.args.to = ap (λ l. number_at l c.args.to)
    (c.deref.ensures.0 ∙ c.self.view_is) in
    let at_from : slice_index_or c.deref-2.result.now c.args.from (pos 0) ≡ number_at xs c.args.from = ap (λ l. number_at l c.args.from)
    (c.deref-2.ensures.0 ∙ c.self.view_is) in
    let value = ap₂ (λ x y. to_z w128 (of_z w128 (to_z w128 (of_z w128 x) -ℤ to_z w128 (of_z w128 y)))) at_to at_from
    ∙ read-between (number_at xs c.args.to) (number_at xs c.args.from) c.args.to c.args.from
    (range c.args.to place) (range c.args.from low) few (omega (arith, order, few)) in
    apart-high _ (number_at xs c.args.to) (number_at xs c.args.from) c.args.to c.args.from value (range c.args.to place) (range c.args.from low) few

pub returns-clause-low : goal.returns-clause-low
returns-clause-low c =
    let xs : List ℤ = c.args.self.now in
    let range : HaveWideRange xs = subst HaveWideRange c.self.view_is c.self.invariant in
    let order = c.requires.order in
    let place = c.requires.place in
    let few = c.requires.few in
    let low : c.args.from < length xs = omega (arith, order, place) in
    let at_to : slice_index_or c.deref.result.now c.args.to (pos 0) ≡ number_at xs c.args.to = ap (λ l. number_at l c.args.to)
    (c.deref.ensures.0 ∙ c.self.view_is) in
    let at_from : slice_index_or c.deref-2.result.now c.args.from (pos 0) ≡ number_at xs c.args.from = ap (λ l. number_at l c.args.from)
    (c.deref-2.ensures.0 ∙ c.self.view_is) in
    let value = ap₂ (λ x y. to_z w128 (of_z w128 (to_z w128 (of_z w128 x) -ℤ to_z w128 (of_z w128 y)))) at_to at_from
    ∙ read-between (number_at xs c.args.to) (number_at xs c.args.from) c.args.to c.args.from
    (range c.args.to place) (range c.args.from low) few (omega (arith, order, few)) in
    apart-low _ (number_at xs c.args.to) (number_at xs c.args.from) c.args.to c.args.from
    value (range c.args.to place) (range c.args.from low) (omega (arith, order, few))
