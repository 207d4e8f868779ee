-- The first of the pieces of the least span.
use Rattle.std.proofs.Common.{◌≡◌, ◌∙◌, ℕ, zero, suc, ◌<◌, Bool, true, false, List, [], ◌∷◌, length, get_or, drop, ℤ, pos, ◌+ℤ◌, ◌-ℤ◌, ◌≤ℤ◌, ◌<ℤ◌, Option, Some}
use Rattle.std.proofs.Common.{None, refl, sym, ap, subst, inl, inr, arith}
use Rattle.std.specs.Prelude.{IsTrue, int_lt, if◌then◌else◌, IfSome, IsNone}
use Rattle.std.proofs.lemmas.Int.{ints}
use Rattle.vr_model.specs.tables.Numbers.{horizon}
use Rattle.vr_model.specs.deciding.Testing.{or_cases, or_left, or_right}
use Rattle.vr_span.specs.declared.pieces.Piece.{Piece}
use Rattle.vr_span.specs.Pieces.{has_from, have_from, IsPiece, IsRisingFrom, ArePieces, BeginsInHorizon, span_of, shorter_of, shortest_of, IsShortest}
use Rattle.vr_span.proofs.PieceLemmas.{of_has, rises_earlier, to_has}

-- the piece is the first of the shortest among pieces that begin at b or later and start at s or later
record IsShortestFrom (b t : ℤ) (ps : List Piece) (d : Piece) : Type 0 where
  among : IsTrue (have_from ps d.first d.lo)
  least : (s x : ℤ) → IsTrue (have_from ps s x) → span_of d ≤ℤ (x -ℤ s)
  earliest : (s x : ℤ) → IsTrue (have_from ps s x) → (x -ℤ s) ≡ span_of d → d.first ≤ℤ s
  low : b ≤ℤ d.lo
  start : t ≤ℤ d.first
  is : IsPiece horizon d

nothing : (s x : ℤ) → IsTrue (have_from [] s x) → ⊥
nothing s x h = let f : false ≡ true → ⊥ = λ e. cc in f h

first_is : (p : Piece) → IsPiece horizon p → IsTrue (has_from p p.first p.lo)
first_is p is = let order = is.in_order in let rises = is.rises in to_has p p.first p.lo (omega (arith, ints), order, omega (arith, ints), rises)

module _ (b t : ℤ) (p : Piece) (ps : List Piece) (low : b ≤ℤ p.lo) (start : t ≤ℤ p.first) (is : IsPiece horizon p) where
  -- the piece in front, where those behind it are no shorter
  front : ((s x : ℤ) → IsTrue (have_from ps s x) → span_of p ≤ℤ (x -ℤ s))
      → ((s x : ℤ) → IsTrue (have_from ps s x) → (x -ℤ s) ≡ span_of p → p.first ≤ℤ s) → IsShortestFrom b t (p ∷ ps) p
  front least earliest = record {
    among = or_left (has_from p p.first p.lo) _ (first_is p is);
    least = λ s x h. elim (or_cases (has_from p s x) _ h) [
      | inl here ↦ (let i = (of_has p s x here).2 in omega (arith, ints, i))
      | inr later ↦ least s x later
    ];
    earliest = λ s x h e. elim (or_cases (has_from p s x) _ h) [
      | inl here ↦ (let i = (of_has p s x here).0 in omega (arith, ints, i, e))
      | inr later ↦ earliest s x later e
    ];
    low = low;
    start = start;
    is = is;
  }

  -- the shortest behind it, where that is shorter
  later_one : (d : Piece) → IsShortestFrom (p.hi +ℤ pos 1) p.last ps d → span_of d <ℤ span_of p → IsShortestFrom b t (p ∷ ps) d
  later_one d m less =
      let a = m.low in
      let c = is.in_order in
      let e = m.start in
      let r = is.rises in
      record {
        among = or_right (has_from p d.first d.lo) _ m.among;
        least = λ s x h. elim (or_cases (has_from p s x) _ h) [
          | inl here ↦ (let i = (of_has p s x here).2 in omega (arith, ints, i, less))
          | inr later ↦ m.least s x later
        ];
        earliest = λ s x h same. elim (or_cases (has_from p s x) _ h) [
          | inl here ↦ absurd (let i = (of_has p s x here).2 in omega (arith, ints, i, less, same))
          | inr later ↦ m.earliest s x later same
        ];
        low = omega (arith, ints, a, c, low);
        start = omega (arith, ints, e, r, start);
        is = m.is;
      }

  both : (d : Piece) → IsShortestFrom (p.hi +ℤ pos 1) p.last ps d → IsShortestFrom b t (p ∷ ps) (shorter_of p (Some d))
  both d m = go (int_lt (span_of d) (span_of p)) refl
    where
      less_of : int_lt (span_of d) (span_of p) ≡ true → span_of d <ℤ span_of p
      less_of h = omega (arith, ints, h)

      more_of : int_lt (span_of d) (span_of p) ≡ false → span_of p ≤ℤ span_of d
      more_of h = omega (arith, ints, h)

      go : (c : Bool) → int_lt (span_of d) (span_of p) ≡ c → IsShortestFrom b t (p ∷ ps) (if c then d else p)
      go true e = later_one d m (less_of e)
      go false e =
          let more = more_of e in
          let a = m.start in
          let r = is.rises in
          front (λ s x h. let l = m.least s x h in omega (arith, ints, l, more))
          (λ s x h same. let l = m.least s x h in let q = m.earliest s x h (omega (arith, ints, l, more, same)) in omega (arith, ints, q, a, r))

shortest_from : (b t : ℤ) (p : Piece) (ps : List Piece) → IsRisingFrom horizon b t (p ∷ ps) → IsShortestFrom b t (p ∷ ps) (shorter_of p (shortest_of ps))
shortest_from b t p [] h = front b t p [] h.0 h.1 h.2 (λ s x n. absurd (nothing s x n)) (λ s x n e. absurd (nothing s x n))
shortest_from b t p (q ∷ qs) h = both b t p (q ∷ qs) h.0 h.1 h.2 (shorter_of q (shortest_of qs)) (shortest_from (p.hi +ℤ pos 1) p.last q qs h.3)

pub shortest_some : (ps : List Piece) → ArePieces ps → IfSome (shortest_of ps) (IsShortest ps)
shortest_some [] h = tt
shortest_some (p ∷ ps) h =
    let m = shortest_from (pos 0) (pos 0) p ps h in
    let order = m.is.in_order in
    let great = m.is.greatest in
    let rises = m.is.rises in
    let latest = m.is.latest in
    record {
      among = m.among;
      least = m.least;
      earliest = m.earliest;
      ends = record {
        cumul = record { at_least = m.low; at_most = omega (arith, ints, order, great) };
        start = record { at_least = m.start; at_most = omega (arith, ints, rises, latest) };
      };
    }

pub shortest_none : (ps : List Piece) → IsNone (shortest_of ps) → ps ≡ []
shortest_none [] none = refl
shortest_none (p ∷ ps) none = absurd (let f : true ≡ false → ⊥ = λ e. cc in f none)

-- ---- the loop

-- what is left of pieces are pieces
rest_are : (k : ℕ) (b t : ℤ) (ps : List Piece) → pos 0 ≤ℤ b → pos 0 ≤ℤ t → IsRisingFrom horizon b t ps → ArePieces (drop k ps)
rest_are zero b t ps low start h = rises_earlier horizon b (pos 0) t (pos 0) ps low start h
rest_are (suc k) b t [] low start h = tt
rest_are (suc k) b t (p ∷ ps) low start h =
    let a = h.0 in
    let c = h.1 in
    let order = h.2.in_order in
    let rises = h.2.rises in
    rest_are k (p.hi +ℤ pos 1) p.last ps (omega (arith, ints, low, a, order)) (omega (arith, ints, start, c, rises)) h.3

first_of_rest : (k : ℕ) (ps : List Piece) (d : Piece) → k < length ps → drop k ps ≡ get_or ps k d ∷ drop (suc k) ps
first_of_rest zero [] d lt = absurd (omega (arith, lt))
first_of_rest zero (p ∷ ps) d lt = refl
first_of_rest (suc k) [] d lt = absurd (omega (arith, lt))
first_of_rest (suc k) (p ∷ ps) d lt = first_of_rest k ps d (omega (arith, lt))

pub ends_at : (k : ℕ) (ps : List Piece) (d : Piece) → k < length ps → ArePieces ps → BeginsInHorizon (get_or ps k d)
ends_at k ps d lt h =
    let r = subst ArePieces (first_of_rest k ps d lt) (rest_are k (pos 0) (pos 0) ps (omega (arith, ints)) (omega (arith, ints)) h) in
    let order = r.2.in_order in
    let great = r.2.greatest in
    let rises = r.2.rises in
    let latest = r.2.latest in
    record {
      cumul = record { at_least = r.0; at_most = omega (arith, ints, order, great) };
      start = record { at_least = r.1; at_most = omega (arith, ints, rises, latest) };
    }

some_ends : (ps : List Piece) (found : Option Piece) → IfSome found (IsShortest ps) → IfSome found BeginsInHorizon
some_ends ps None h = tt
some_ends ps (Some d) h = h.ends

pub ends_of_rest : (k : ℕ) (ps : List Piece) (best : Option Piece) → ArePieces ps → best ≡ shortest_of (drop k ps) → IfSome best BeginsInHorizon
ends_of_rest k ps best h is =
    subst (λ found. IfSome found BeginsInHorizon) (sym is)
    (some_ends (drop k ps) (shortest_of (drop k ps))
    (shortest_some (drop k ps) (rest_are k (pos 0) (pos 0) ps (omega (arith, ints)) (omega (arith, ints)) h)))

pub one_more : (k : ℕ) (ps : List Piece) (d : Piece) (best : Option Piece) → k < length ps
    → best ≡ shortest_of (drop (suc k) ps) → Some (shorter_of (get_or ps k d) best) ≡ shortest_of (drop k ps)
one_more k ps d best lt is = ap (λ b. Some (shorter_of (get_or ps k d) b)) is ∙ ap shortest_of (sym (first_of_rest k ps d lt))

pub shorter_is : (p : Piece) (found : Option Piece) (d : Piece) → found ≡ Some d → span_of d <ℤ span_of p → d ≡ shorter_of p found
shorter_is p found d is less = sym (ap (shorter_of p) is ∙ go (int_lt (span_of d) (span_of p)) refl)
  where
    go : (c : Bool) → int_lt (span_of d) (span_of p) ≡ c → (if c then d else p) ≡ d
    go true e = refl
    go false e = absurd (omega (arith, ints, e, less))

pub shorter_not : (p : Piece) (found : Option Piece) (d : Piece) → found ≡ Some d → span_of p ≤ℤ span_of d → p ≡ shorter_of p found
shorter_not p found d is more = sym (ap (shorter_of p) is ∙ go (int_lt (span_of d) (span_of p)) refl)
  where
    go : (c : Bool) → int_lt (span_of d) (span_of p) ≡ c → (if c then d else p) ≡ p
    go true e = absurd (omega (arith, ints, e, more))
    go false e = refl

-- at the end
pub all_of_rest : (k : ℕ) (ps : List Piece) (best : Option Piece) → k ≡ 0 → best ≡ shortest_of (drop k ps) → best ≡ shortest_of ps
all_of_rest k ps best none is = is ∙ ap (λ n. shortest_of (drop n ps)) none
