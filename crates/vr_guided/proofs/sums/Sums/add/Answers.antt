use Rattle.std.proofs.Common.{◌≡◌, ◌∙◌, ◌-◌, ◌*◌, ◌^◌, ◌≤◌, ◌++◌, ◌∷◌, [], List, ℤ, length, slice_index_or, to_z, of_z, ap, ap₂, sym, subst, arith}
use Rattle.std.specs.Int.{w128}
use Rattle.std.specs.Prelude.{pos, ◌+ℤ◌}
use Rattle.vr_model.specs.tables.Numbers.{number_at}
use Rattle.vr_model.specs.tables.WellFormed.{IsIn}
use Rattle.vr_guided.specs.Sums.{HaveWideRange}
use Rattle.vr_guided.proofs.SumLemmas.{range-push, read-more}
use Rattle.vr_guided.proofs.sums.Sums.add.Goals as goal

pub invariant_of-self : goal.invariant_of-self
invariant_of-self c =
    let xs : List ℤ = c.self.inside.items.items in
    let w = c.args.weight in
    let some : 1 ≤ length xs = subst (λ l. 1 ≤ length l) (sym c.self.view_is) c.requires.some in
    let room : length xs ≤ 1001 = subst (λ l. length l ≤ 1001) (sym c.self.view_is) c.requires.room in
    let before : IsIn (pos 0) (pos ((length xs - 1) * 2 ^ 70)) (number_at xs (length xs - 1)) = c.self.invariant (length xs - 1) (omega (arith, some)) in
    let at : slice_index_or c.deref.result.now (c.len.result - 1) (pos 0) ≡ number_at xs (length xs - 1) = ap₂ (λ l k. slice_index_or l (k - 1) (pos 0))
    c.deref.ensures.0 c.len.ensures.value in
    let value : to_z w128 (of_z w128 (to_z w128 (of_z w128 (slice_index_or c.deref.result.now (c.len.result - 1) (pos 0))) +ℤ to_z w128 (of_z w128 w)))
    ≡ number_at xs (length xs - 1) +ℤ w
    = ap (λ x. to_z w128 (of_z w128 (to_z w128 (of_z w128 x) +ℤ to_z w128 (of_z w128 w)))) at
    ∙ read-more (number_at xs (length xs - 1)) w (length xs - 1) before c.requires.weight (omega (arith, room)) in
    subst HaveWideRange (sym (c.push.ensures.items ∙ ap (λ z. xs ++ z ∷ []) value)) (range-push xs w c.self.invariant some c.requires.weight)
