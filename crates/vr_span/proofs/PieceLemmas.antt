-- What pieces have, and how they rise.
use Rattle.std.proofs.Common.{◌≡◌, ◌∙◌, Bool, true, false, ◌&&◌, ◌||◌, List, [], ◌∷◌, ◌++◌, ◌^◌, ℤ, pos, neg_ℤ, ◌+ℤ◌, ◌-ℤ◌, ◌≤ℤ◌, ◌<ℤ◌, refl, sym, ap, inl, inr}
use Rattle.std.proofs.Common.{arith, ◌⊎◌}
use Rattle.std.specs.Prelude.{IsTrue, int_le, if◌then◌else◌}
use Rattle.std.specs.Int.{int_max, int_min}
use Rattle.std.proofs.lemmas.Int.{ints, int_max_is, int_min_is}
use Rattle.vr_model.specs.tables.WellFormed.{IsIn}
use Rattle.vr_model.specs.deciding.Testing.{and_left, and_right, and_both, or_cases, le_of_test, test_of_le}
use Rattle.vr_spans.specs.declared.runs.Run.{Run}
use Rattle.vr_spans.specs.Runs.{in_run}
use Rattle.vr_span.specs.declared.pieces.Piece.{Piece}
use Rattle.vr_span.specs.Pieces.{start_of, has_from, have_from, IsNear, IsNearNumber, IsPiece, IsRisingFrom, within_run, piece_if_any}

pub min_left : (a b : ℤ) → int_min a b ≤ℤ a
min_left a b = let m = int_min_is a b in omega (arith, ints, m)

pub min_right : (a b : ℤ) → int_min a b ≤ℤ b
min_right a b = let m = int_min_is a b in omega (arith, ints, m)

pub to_min : (x a b : ℤ) → x ≤ℤ a → x ≤ℤ b → x ≤ℤ int_min a b
to_min x a b h k = let m = int_min_is a b in omega (arith, ints, m, h, k)

pub max_left : (a b : ℤ) → a ≤ℤ int_max a b
max_left a b = let m = int_max_is a b in omega (arith, ints, m)

pub max_right : (a b : ℤ) → b ≤ℤ int_max a b
max_right a b = let m = int_max_is a b in omega (arith, ints, m)

pub of_max : (x a b : ℤ) → a ≤ℤ x → b ≤ℤ x → int_max a b ≤ℤ x
of_max x a b h k = let m = int_max_is a b in omega (arith, ints, m, h, k)

pub le_or_lt : (a b : ℤ) → (a ≤ℤ b) ⊎ (b <ℤ a)
le_or_lt a b = grind (arith, ints)

pub same_tests : (a b : Bool) → (IsTrue a → IsTrue b) → (IsTrue b → IsTrue a) → a ≡ b
same_tests true b to from = sym (to refl)
same_tests false true to from = from refl
same_tests false false to from = refl

pub same_piece : (p q : Piece) → p.lo ≡ q.lo → p.hi ≡ q.hi → p.first ≡ q.first → p.last ≡ q.last → p ≡ q
same_piece p q lo hi first last = λ i. record { lo = lo i; hi = hi i; first = first i; last = last i }

-- ---- one piece

-- x is a cumul of the piece that is reached from s or later
abbrev pub InPiece : Piece → ℤ → ℤ → Type 0
InPiece p s x = (p.lo ≤ℤ x) × (x ≤ℤ p.hi) × (s ≤ℤ (p.first +ℤ (x -ℤ p.lo))) × (s ≤ℤ p.last)

pub of_has : (p : Piece) (s x : ℤ) → IsTrue (has_from p s x) → InPiece p s x
of_has p s x h =
    let rest = and_right (int_le p.lo x) _ h in
    let from = le_of_test s (start_of p x) (and_right (int_le x p.hi) _ rest) in
    let a = min_left (p.first +ℤ (x -ℤ p.lo)) p.last in
    let b = min_right (p.first +ℤ (x -ℤ p.lo)) p.last in (
      le_of_test p.lo x (and_left (int_le p.lo x) _ h),
      le_of_test x p.hi (and_left (int_le x p.hi) _ rest),
      omega (arith, ints, from, a),
      omega (arith, ints, from, b),
    )

pub to_has : (p : Piece) (s x : ℤ) → InPiece p s x → IsTrue (has_from p s x)
to_has p s x h =
    and_both (int_le p.lo x) _ (test_of_le p.lo x h.0)
    (and_both (int_le x p.hi) _ (test_of_le x p.hi h.1) (test_of_le s (start_of p x) (to_min s (p.first +ℤ (x -ℤ p.lo)) p.last h.2 h.3)))

pub start_last : (p : Piece) (x : ℤ) → start_of p x ≤ℤ p.last
start_last p x = min_right (p.first +ℤ (x -ℤ p.lo)) p.last

pub start_rises : (p : Piece) (x y : ℤ) → x ≤ℤ y → start_of p x ≤ℤ start_of p y
start_rises p x y le =
    let a = min_left (p.first +ℤ (x -ℤ p.lo)) p.last in
    to_min (start_of p x) (p.first +ℤ (y -ℤ p.lo)) p.last (omega (arith, ints, a, le)) (start_last p x)

pub start_by_one : (p : Piece) (x y : ℤ) → x ≤ℤ y → start_of p y ≤ℤ (start_of p x +ℤ (y -ℤ x))
start_by_one p x y le =
    let a = min_left (p.first +ℤ (y -ℤ p.lo)) p.last in
    let b = min_right (p.first +ℤ (y -ℤ p.lo)) p.last in
    let m = int_min_is (p.first +ℤ (x -ℤ p.lo)) p.last in
    omega (arith, ints, a, b, m, le)

pub start_first : (p : Piece) (x : ℤ) → p.lo ≤ℤ x → p.first ≤ℤ p.last → p.first ≤ℤ start_of p x
start_first p x low rises = to_min p.first (p.first +ℤ (x -ℤ p.lo)) p.last (omega (arith, ints, low)) rises

-- the start is near enough where the piece and the cumul are
pub start_range : (p : Piece) (x : ℤ) → IsNear p → IsNearNumber x → IsIn (neg_ℤ (pos (2 ^ 60))) (pos (2 ^ 60)) (start_of p x)
start_range p x near at =
    let lo = near.lo in
    let first = near.first in
    let last = near.last in
    let l = start_last p x in
    record {
      at_least = to_min (neg_ℤ (pos (2 ^ 60))) (p.first +ℤ (x -ℤ p.lo)) p.last (omega (arith, ints, lo, first, at)) (omega (arith, ints, last));
      at_most = omega (arith, ints, l, last);
    }

-- what is left of a piece in a run has the cumuls of both
pub in_cut : (r : Run) (p : Piece) (s x : ℤ) → InPiece (within_run r p) s x → InPiece p s x × (r.lo ≤ℤ x) × (x ≤ℤ r.hi)
in_cut r p s x h =
    let lo = int_max p.lo r.lo in
    let hi = int_min p.hi r.hi in
    let a = max_left p.lo r.lo in
    let b = max_right p.lo r.lo in
    let c = min_left p.hi r.hi in
    let d = min_right p.hi r.hi in
    let e = min_left (p.first +ℤ (lo -ℤ p.lo)) p.last in
    let f = start_last p hi in
    let low = h.0 in
    let high = h.1 in
    let from = h.2 in
    let most = h.3 in (
      (omega (arith, ints, a, low), omega (arith, ints, c, high), omega (arith, ints, from, e), omega (arith, ints, most, f)),
      omega (arith, ints, b, low),
      omega (arith, ints, d, high),
    )

pub to_cut : (r : Run) (p : Piece) (s x : ℤ) → InPiece p s x → r.lo ≤ℤ x → x ≤ℤ r.hi → InPiece (within_run r p) s x
to_cut r p s x h low high =
    let lo = int_max p.lo r.lo in
    let hi = int_min p.hi r.hi in
    let begins = of_max x p.lo r.lo h.0 low in
    let ends = to_min x p.hi r.hi h.1 high in
    let here : s ≤ℤ start_of p x = to_min s (p.first +ℤ (x -ℤ p.lo)) p.last h.2 h.3 in
    let step = start_by_one p lo x begins in
    let rise = start_rises p x hi ends in
    (begins, ends, omega (arith, ints, here, step), omega (arith, ints, here, rise))

pub cut_has : (r : Run) (p : Piece) (s x : ℤ) → has_from (within_run r p) s x ≡ (has_from p s x && in_run r x)
cut_has r p s x = same_tests _ _
    (λ h. let c = in_cut r p s x (of_has (within_run r p) s x h) in
    and_both (has_from p s x) _ (to_has p s x c.0) (and_both (int_le r.lo x) _ (test_of_le r.lo x c.1) (test_of_le x r.hi c.2)))
    (λ h. let i = and_right (has_from p s x) _ h in
    to_has (within_run r p) s x
    (to_cut r p s x (of_has p s x (and_left (has_from p s x) _ h))
    (le_of_test r.lo x (and_left (int_le r.lo x) _ i)) (le_of_test x r.hi (and_right (int_le r.lo x) _ i))))

-- ---- lists of pieces

pub have_append : (ps qs : List Piece) (s x : ℤ) → have_from (ps ++ qs) s x ≡ (have_from ps s x || have_from qs s x)
have_append [] qs s x = refl
have_append (p ∷ ps) qs s x = grind (arith, have_append ps qs s x)

pub kept_has : (p : Piece) (s x : ℤ) → have_from (piece_if_any p) s x ≡ has_from p s x
kept_has p s x = go (int_le p.lo p.hi) refl
  where
    none : int_le p.lo p.hi ≡ false → IsTrue (has_from p s x) → ⊥
    none e h =
        let i = of_has p s x h in
        let a = i.0 in
        let b = i.1 in
        let t = test_of_le p.lo p.hi (omega (arith, ints, a, b)) in
        let f : false ≡ true → ⊥ = λ e. cc in
        f (sym e ∙ t)

    go : (b : Bool) → int_le p.lo p.hi ≡ b → have_from (if b then p ∷ [] else []) s x ≡ has_from p s x
    go true e = grind arith
    go false e = same_tests false _ (λ h. let f : false ≡ true → ⊥ = λ e. cc in absurd (f h)) (λ h. absurd (none e h))

-- pieces that begin at b or later begin at an earlier number too
pub rises_earlier : (top b c s t : ℤ) (ps : List Piece) → c ≤ℤ b → t ≤ℤ s → IsRisingFrom top b s ps → IsRisingFrom top c t ps
rises_earlier top b c s t [] le lt h = tt
rises_earlier top b c s t (p ∷ ps) le lt h = let low = h.0 in let start = h.1 in (omega (arith, ints, le, low), omega (arith, ints, lt, start), h.2, h.3)

-- they have no cumul before
pub none_before : (top b t : ℤ) (ps : List Piece) (s x : ℤ) → IsRisingFrom top b t ps → x <ℤ b → IsTrue (have_from ps s x) → ⊥
none_before top b t [] s x h less is = let f : false ≡ true → ⊥ = λ e. cc in f is
none_before top b t (p ∷ ps) s x h less is = elim (or_cases (has_from p s x) _ is) [
  | inl here ↦ (let i = of_has p s x here in let a = i.0 in let b = h.0 in omega (arith, ints, a, b, less))
  | inr later ↦ none_before top (p.hi +ℤ pos 1) p.last ps s x h.3 (let a = h.0 in let b = h.2.in_order in omega (arith, ints, a, b, less)) later
]

-- each piece ends before b, and starts at s or earlier
abbrev pub AreBefore : ℤ → ℤ → List Piece → Type 0
AreBefore b s [] = Unit {0}
AreBefore b s (p ∷ ps) = (p.hi <ℤ b) × (p.last ≤ℤ s) × AreBefore b s ps

pub before_later : (b c s t : ℤ) (ps : List Piece) → b ≤ℤ c → s ≤ℤ t → AreBefore b s ps → AreBefore c t ps
before_later b c s t [] le lt h = tt
before_later b c s t (p ∷ ps) le lt h =
    let e = h.0 in
    let l = h.1 in
    (omega (arith, ints, le, e), omega (arith, ints, lt, l), before_later b c s t ps le lt h.2)

pub before_append : (b s : ℤ) (ps qs : List Piece) → AreBefore b s ps → AreBefore b s qs → AreBefore b s (ps ++ qs)
before_append b s [] qs h k = k
before_append b s (p ∷ ps) qs h k = (h.0, h.1, before_append b s ps qs h.2 k)

pub before_kept : (b s : ℤ) (p : Piece) → p.hi <ℤ b → p.last ≤ℤ s → AreBefore b s (piece_if_any p)
before_kept b s p h k = go (int_le p.lo p.hi)
  where
    go : (t : Bool) → AreBefore b s (if t then p ∷ [] else [])
    go true = (h, k, tt)
    go false = tt

-- a piece behind all others
pub rises_append : (top b s : ℤ) (ps : List Piece) (p : Piece) → IsRisingFrom top b s ps
    → AreBefore p.lo p.first ps → b ≤ℤ p.lo → s ≤ℤ p.first → IsPiece top p → IsRisingFrom top b s (ps ++ p ∷ [])
rises_append top b s [] p h before low start is = (low, start, is, tt)
rises_append top b s (q ∷ ps) p h before low start is =
    (h.0, h.1, h.2, rises_append top (q.hi +ℤ pos 1) q.last ps p h.3 before.2 (let e = before.0 in omega (arith, ints, e)) before.1 is)

nothing_more : (ps : List Piece) → ps ++ [] ≡ ps
nothing_more [] = refl
nothing_more (p ∷ ps) = ap (λ qs. p ∷ qs) (nothing_more ps)

pub rises_kept : (top b s : ℤ) (ps : List Piece) (p : Piece) → IsRisingFrom top b s ps → AreBefore p.lo p.first ps
    → b ≤ℤ p.lo → s ≤ℤ p.first → (p.lo ≤ℤ p.hi → IsPiece top p) → IsRisingFrom top b s (ps ++ piece_if_any p)
rises_kept top b s ps p h before low start is = go (int_le p.lo p.hi) refl
  where
    go : (t : Bool) → int_le p.lo p.hi ≡ t → IsRisingFrom top b s (ps ++ (if t then p ∷ [] else []))
    go true e = rises_append top b s ps p h before low start (is (le_of_test p.lo p.hi e))
    go false e = rw (nothing_more ps) h
