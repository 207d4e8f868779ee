-- The pass over pieces and runs, as the code holds them.
use Rattle.std.proofs.Common.{◌≡◌, ◌∙◌, ℕ, zero, suc, ◌+◌, ◌-◌, ◌<◌, ◌≤◌, List, [], ◌∷◌, ◌++◌, length, get_or, take, drop, ℤ, pos, neg_ℤ, ◌+ℤ◌, ◌≤ℤ◌, refl, sym}
use Rattle.std.proofs.Common.{ap, subst, inl, inr, arith, ◌⊎◌}
use Rattle.std.specs.Prelude.{slice_get, Some, None}
use Rattle.std.proofs.lemmas.Int.{ints}
use Rattle.std.proofs.lemmas.List.{take_all}
use Rattle.std.proofs.lemmas.Option.{get_or_from_slice_get, slice_get_past}
use Rattle.vr_model.specs.tables.Numbers.{horizon}
use Rattle.vr_model.specs.tables.WellFormed.{IsIn}
use Rattle.vr_spans.specs.declared.runs.Run.{Run}
use Rattle.vr_spans.specs.Runs.{IsNormal}
use Rattle.vr_steps.specs.declared.hops.Hop.{Hop}
use Rattle.vr_steps.specs.Arcs.{IsSoundHop}
use Rattle.vr_steps.specs.Levels.{IsCumuls}
use Rattle.vr_span.specs.declared.pieces.Piece.{Piece}
use Rattle.vr_span.specs.Pieces.{piece_limit, pieces_behind, piece_if_any, moved_piece, until_of, within_run, ArePieces, Arrive, IsNear, IsPiece, IsRisingFrom}
use Rattle.vr_span.proofs.PieceLemmas.{rises_earlier}
use Rattle.vr_span.proofs.CutLemmas.{IsCutting, cutting_begins, cutting_ends, drop_left, drop_right, run_high, run_low}
use Rattle.vr_span.proofs.BehindLemmas.{arrive, behind_rises}

abbrev pub no_piece : Piece
no_piece = record { lo = pos 0; hi = pos 0; first = pos 0; last = pos 0 }

-- what the first of the pieces leads to
abbrev pub first_moved : Hop → List Piece → Piece
first_moved hop left = moved_piece hop (until_of (drop 1 left)) (get_or left 0 no_piece)

-- a piece within these bounds is near
near_within : (top b : ℤ) → neg_ℤ piece_limit ≤ℤ b → top ≤ℤ piece_limit → (p : Piece) → b ≤ℤ p.lo → pos 0 ≤ℤ p.first → IsPiece top p → IsNear p
near_within top b low high p begin start is =
    let order = is.in_order in
    let great = is.greatest in
    let rises = is.rises in
    let latest = is.latest in
    record {
      lo = record { at_least = omega (arith, ints, low, begin); at_most = omega (arith, ints, order, great, high) };
      hi = record { at_least = omega (arith, ints, low, begin, order); at_most = omega (arith, ints, great, high) };
      first = record { at_least = omega (arith, ints, start); at_most = omega (arith, ints, rises, latest) };
      last = record { at_least = omega (arith, ints, start, rises); at_most = omega (arith, ints, latest) };
    }

pub near_first : (left : List Piece) → ArePieces left → 0 < length left → IsNear (get_or left 0 no_piece)
near_first [] h some = absurd (omega (arith, some))
near_first (p ∷ ps) h some = near_within horizon (pos 0) (omega (arith, ints)) (omega (arith, ints)) p h.0 h.1 h.2

-- the runs that are left begin with the one that is looked at
pub run_at : (next : List Run) (k : ℕ) (r : Run) → slice_get next k ≡ Some r → drop k next ≡ r ∷ drop (suc k) next
run_at [] k r is = let e : None ≡ Some r = sym (slice_get_past [] k (omega arith)) ∙ is in let f : None ≡ Some r → ⊥ = λ e. cc in absurd (f e)
run_at (q ∷ qs) zero r is = let same : q ≡ r = get_or_from_slice_get (q ∷ qs) 0 r q is in ap (λ x. x ∷ qs) same
run_at (q ∷ qs) (suc k) r is = run_at qs k r is

-- what the loop keeps
pub record IsPassing (hop : Hop) (from : List Piece) (next : List Run) (out left : List Piece) (k : ℕ) : Type 0 where
  pub cutting : IsCutting (pieces_behind hop from) next out (pieces_behind hop left) (drop k next)
  pub left_are : ArePieces left

module _ (hop : Hop) (sound : IsSoundHop hop) (from : List Piece) (next : List Run) where
  pub pass_begins : ArePieces from → IsNormal next → IsCumuls next → IsPassing hop from next [] from 0
  pass_begins are normal cumuls = record {
    cutting = cutting_begins (pieces_behind hop from) next
        (let t = sound.transit.at_least in
        rises_earlier piece_limit (pos 0 +ℤ hop.transit) (neg_ℤ piece_limit) (pos 0) (pos 0) (pieces_behind hop from)
        (omega (arith, ints, t)) (omega (arith, ints)) (behind_rises hop sound (pos 0) (pos 0) from (omega (arith, ints)) are))
        normal cumuls;
    left_are = are;
  }

  module _ (out left : List Piece) (k : ℕ) (m : IsPassing hop from next out left k) (some : 0 < length left) where
    pub near_moved : IsNear (first_moved hop left)
    near_moved = go left some m.cutting.left_rises
      where
        go : (left : List Piece) → 0 < length left
            → IsRisingFrom piece_limit (neg_ℤ piece_limit) (pos 0) (pieces_behind hop left) → IsNear (first_moved hop left)
        go [] some h = absurd (omega (arith, some))
        go (p ∷ ps) some h =
            near_within piece_limit (neg_ℤ piece_limit) (omega (arith, ints)) (omega (arith, ints)) (moved_piece hop (until_of ps) p) h.0 h.1 h.2

    module _ (r : Run) (is : slice_get next k ≡ Some r) where
      pub run_range : IsIn (pos 0) horizon r.lo × IsIn (pos 0) horizon r.hi
      run_range = go left some (subst (λ rs. IsCutting (pieces_behind hop from) next out (pieces_behind hop left) rs) (run_at next k r is) m.cutting)
        where
          go : (left : List Piece) → 0 < length left → IsCutting (pieces_behind hop from) next out (pieces_behind hop left) (r ∷ drop (suc k) next)
              → IsIn (pos 0) horizon r.lo × IsIn (pos 0) horizon r.hi
          go [] some c = absurd (omega (arith, some))
          go (p ∷ ps) some c =
              let low = run_low _ _ _ _ _ _ _ c in
              let high = run_high _ _ _ _ _ _ _ c in
              let order = c.right_normal.1 in
              (record { at_least = low; at_most = omega (arith, ints, order, high) }, record { at_least = omega (arith, ints, low, order); at_most = high })

      module _ (new : List Piece) (is_new : new ≡ out ++ piece_if_any (within_run r (first_moved hop left))) where
        pub take_left : (first_moved hop left).hi ≤ℤ r.hi → IsPassing hop from next new (take (length left - 1) (drop 1 left)) k
        take_left first = go left some m.left_are is_new first
            (subst (λ rs. IsCutting (pieces_behind hop from) next out (pieces_behind hop left) rs) (run_at next k r is) m.cutting)
          where
            go : (left : List Piece) → 0 < length left → ArePieces left
                → new ≡ out ++ piece_if_any (within_run r (first_moved hop left)) → (first_moved hop left).hi ≤ℤ r.hi
                → IsCutting (pieces_behind hop from) next out (pieces_behind hop left) (r ∷ drop (suc k) next)
                → IsPassing hop from next new (take (length left - 1) (drop 1 left)) k
            go [] some are e first c = absurd (omega (arith, some))
            go (p ∷ ps) some are e first c =
                let a = are.0 in
                let b = are.1 in
                let order = are.2.in_order in
                let rises = are.2.rises in
                rw (take_all (length (p ∷ ps) - 1) ps (omega arith)) (record {
                  cutting = subst (λ o. IsCutting (pieces_behind hop from) next o (pieces_behind hop ps) (drop k next)) (sym e)
                      (subst (λ rs. IsCutting (pieces_behind hop from) next (out ++ piece_if_any (within_run r (moved_piece hop (until_of ps) p)))
                      (pieces_behind hop ps) rs) (sym (run_at next k r is)) (drop_left _ _ _ _ _ _ _ c first));
                  left_are =
                      rises_earlier horizon (p.hi +ℤ pos 1) (pos 0) p.last (pos 0) ps (omega (arith, ints, a, order)) (omega (arith, ints, b, rises)) are.3;
                })

        pub take_right : r.hi ≤ℤ (first_moved hop left).hi → IsPassing hop from next new left (k + 1)
        take_right last = go left some m.left_are is_new last
            (subst (λ rs. IsCutting (pieces_behind hop from) next out (pieces_behind hop left) rs) (run_at next k r is) m.cutting)
          where
            go : (left : List Piece) → 0 < length left → ArePieces left
                → new ≡ out ++ piece_if_any (within_run r (first_moved hop left)) → r.hi ≤ℤ (first_moved hop left).hi
                → IsCutting (pieces_behind hop from) next out (pieces_behind hop left) (r ∷ drop (suc k) next) → IsPassing hop from next new left (k + 1)
            go [] some are e last c = absurd (omega (arith, some))
            go (p ∷ ps) some are e last c =
                let same : suc k ≡ k + 1 = omega arith in
                record {
                  cutting = subst (λ o. IsCutting (pieces_behind hop from) next o (pieces_behind hop (p ∷ ps)) (drop (k + 1) next)) (sym e)
                      (subst (λ n. IsCutting (pieces_behind hop from) next (out ++ piece_if_any (within_run r (moved_piece hop (until_of ps) p)))
                      (pieces_behind hop (p ∷ ps)) (drop n next)) same (drop_right _ _ _ _ _ _ _ c last));
                  left_are = are;
                }

  pub pass_ends : (out left : List Piece) (k : ℕ) → ArePieces from → IsPassing hop from next out left k
      → (length left ≡ 0) ⊎ (length next ≤ k) → Arrive hop from next out
  pass_ends out left k are m gone =
      arrive hop sound from next out are (cutting_ends (pieces_behind hop from) next out (pieces_behind hop left) (drop k next) m.cutting (elim gone [
        | inl none ↦ inl (no_left left none)
        | inr none ↦ inr (no_right next k none)
      ]))
    where
      no_left : (left : List Piece) → length left ≡ 0 → pieces_behind hop left ≡ []
      no_left [] e = refl
      no_left (p ∷ ps) e = absurd (omega (arith, e))

      no_right : (rs : List Run) (k : ℕ) → length rs ≤ k → drop k rs ≡ []
      no_right [] zero le = refl
      no_right [] (suc k) le = refl
      no_right (r ∷ rs) zero le = absurd (omega (arith, le))
      no_right (r ∷ rs) (suc k) le = no_right rs k (omega (arith, le))
