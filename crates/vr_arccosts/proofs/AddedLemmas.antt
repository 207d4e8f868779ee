-- What moves that are told alone add, as code works it out: by the pieces that come between places of lists.
use Rattle.std.proofs.Common.{◌≡◌, ◌∙◌, ℕ, ◌+◌, ◌-◌, ◌<◌, ◌≤◌, true, false, List, [], ◌∷◌, ◌++◌, length, reverse, take, drop, w64, to_z, of_z, refl, ap, ap₂}
use Rattle.std.proofs.Common.{arith}
use Rattle.std.proofs.lemmas.Int.{ints}
use Rattle.std.specs.Prelude.{ℤ, ◌+ℤ◌, slice_index, slice_range, slice_set}
use Rattle.vr_model.specs.moves.MoveTests.{is_move}
use Rattle.vr_model.specs.routes.Routes.{route}
use Rattle.vr_model.specs.declared.records.Model.{Model}
use Rattle.vr_model.specs.declared.neighbours.Move.TheVariants.{Exchange, Cross}
use Rattle.vr_routes.specs.Pieces.{joined}
use Rattle.vr_routes.specs.declared.pieces.Piece.{Piece}
use Rattle.vr_routes.specs.declared.pieces.Piece.TheVariants.{Chain}
use Rattle.vr_routes.proofs.ChangeLemmas.{exchanged_within}
use Rattle.vr_routes.proofs.FactLemmas.{of_cross, of_exchange}
use Rattle.vr_routes.proofs.OnceLemmas.{slice_from}
use Rattle.vr_parts.specs.Bounds.{IsAddedByList}
use Rattle.vr_arccosts.specs.ArcMoves.{arcs_added, costs_more, with_between}
use Rattle.vr_arccosts.proofs.MoveLemmas.{one-list, other-front, swapped-list, two-lists}

-- what one list adds, read from its bits
pub list-read : {x y : ℤ} → IsAddedByList x → x ≡ y → to_z w64 (of_z w64 x) ≡ y
list-read range is = omega (arith, ints, range.low, range.high, is)

-- two nodes side by side, turned
turned-two : (list : List ℕ) (a : ℕ) → a + 1 < length list → reverse (slice_range list a (a + 2)) ≡ slice_index list (a + 1) ∷ (slice_index list a ∷ [])
turned-two list a low =
    let up : a < a + 2 = omega arith in
    let next : a + 1 < a + 2 = omega arith in
    let within : a + 2 ≤ length list = omega (arith, low) in
    let none : (a + 2) - (a + 1 + 1) ≡ 0 = omega arith in
    ap reverse (slice_from list a (a + 2) up within
    ∙ ap (λ l. slice_index list a ∷ l) (slice_from list (a + 1) (a + 2) next within
    ∙ ap (λ n. slice_index list (a + 1) ∷ take n (drop (a + 1 + 1) list)) none))

module _ (model : Model) (lists : List (List ℕ)) where
  -- what pieces add between two places of the list of vehicle v
  abbrev added : ℕ → ℕ → ℕ → List Piece → ℤ
  added v f b pieces = costs_more model lists v (with_between (route lists v) f b (joined lists pieces))

  pub neighbours-add : (v a : ℕ) → is_move model lists (Exchange v a v (a + 1)) ≡ true
      → added v a (a + 2) (Chain v a (a + 2) true ∷ []) ≡ arcs_added model lists (Exchange v a v (a + 1))
  neighbours-add v a one =
      let list : List ℕ = route lists v in
      let x : ℕ = slice_index list a in
      let y : ℕ = slice_index list (a + 1) in
      let facts = of_exchange model lists v a v (a + 1) one in
      let none : 0 ≡ (a + 1) - (a + 1) = omega arith in
      let behind : a + 2 ≡ a + 1 + 1 = omega arith in
      ap (λ l. costs_more model lists v (with_between list a (a + 2) (l ++ []))) (turned-two list a facts.other_place)
      ∙ ap₂ (λ b n. costs_more model lists v (with_between list a b (y ∷ (take n (drop (a + 1) list) ++ x ∷ [])))) behind none
      ∙ ap (costs_more model lists v) (swapped-list list a (a + 1) y x (omega arith) facts.other_place)
      ∙ one-list model lists (Exchange v a v (a + 1)) v (slice_set (slice_set list a y) (a + 1) x)
      facts.vehicle (exchanged_within lists v v a (a + 1) y x refl facts.vehicle)

  pub crossed-adds : (v a w b : ℕ) {his mine : Piece} {x y : ℤ}
      → is_move model lists (Cross v a w b) ≡ true → his ≡ Chain w 0 b false → mine ≡ Chain v 0 a false
      → x ≡ added v 0 a (his ∷ []) → y ≡ added w 0 b (mine ∷ []) → x +ℤ y ≡ arcs_added model lists (Cross v a w b)
  crossed-adds v a w b one his-is mine-is got left =
      let list : List ℕ = route lists v in
      let other : List ℕ = route lists w in
      let facts = of_cross model lists v a w b one in
      ap₂ (λ x y. x +ℤ y)
      (got ∙ ap (λ p. added v 0 a (p ∷ [])) his-is ∙ ap (costs_more model lists v) (other-front list other a b))
      (left ∙ ap (λ p. added w 0 b (p ∷ [])) mine-is ∙ ap (costs_more model lists w) (other-front other list b a))
      ∙ two-lists model lists (Cross v a w b) v w (take b other ++ drop a list) (take a list ++ drop b other) facts.vehicle facts.other facts.apart refl
