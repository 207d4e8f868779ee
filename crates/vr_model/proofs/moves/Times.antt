-- How often a number stands in a list, and in lists.
use Rattle.std.proofs.Common.{◌⊎◌, ◌≡◌, ◌∙◌, ℕ, zero, suc, ◌+◌, ◌<◌, ◌≤◌, Bool, false, not, cond, List, [], ◌∷◌, ◌++◌, length, reverse, take, drop, refl, sym}
use Rattle.std.proofs.Common.{ap, subst, inl, inr, arith}
use Rattle.std.specs.Prelude.{IsTrue, ◌==◌, slice_index, slice_set}
use Rattle.std.specs.List.{list_all, concat}
use Rattle.std.proofs.lemmas.Bool.{cases_lt}
use Rattle.std.proofs.lemmas.Bool.Decides.{eqb_tells}
use Rattle.std.proofs.lemmas.List.{take-append-drop, reverse-append}
use Rattle.vr_model.specs.deciding.Testing.{or_cases, or_left, or_right, and_left, and_right, and_both, eq_of_test, test_of_eq}
use Rattle.vr_model.specs.routes.Routes.{route, holds, is_distinct}
use Rattle.vr_model.proofs.tables.Tests.{clash, fails, fails_not}
use Rattle.vr_model.proofs.routes.Lists.{place_of_held, held_at}

-- 1 where two numbers are the same, else 0
abbrev pub hit : ℕ → ℕ → ℕ
hit x y = cond (x == y) 1 0

-- how often a number stands in a list
abbrev pub times : ℕ → List ℕ → ℕ
times x [] = 0
times x (y ∷ ys) = hit x y + times x ys

-- how often a number stands in all lists
abbrev pub times_in : ℕ → List (List ℕ) → ℕ
times_in x [] = 0
times_in x (l ∷ ls) = times x l + times_in x ls

pub times_append : (x : ℕ) (xs ys : List ℕ) → times x (xs ++ ys) ≡ times x xs + times x ys
times_append x [] ys = omega arith
times_append x (z ∷ zs) ys = let r = times_append x zs ys in omega (arith, r)

pub times_split : (x k : ℕ) (xs : List ℕ) → times x (take k xs) + times x (drop k xs) ≡ times x xs
times_split x k xs = sym (times_append x (take k xs) (drop k xs)) ∙ ap (times x) (take-append-drop k xs)

pub times_reverse : (x : ℕ) (xs : List ℕ) → times x (reverse xs) ≡ times x xs
times_reverse x [] = refl
times_reverse x (y ∷ ys) =
    let r = times_reverse x ys in
    let a = times_append x (reverse ys) (y ∷ []) in
    let e : times x (reverse (y ∷ ys)) ≡ times x (reverse ys ++ y ∷ []) = ap (times x) (reverse-append (y ∷ []) ys) in
    omega (arith, r, a, e)

pub times_set : (x : ℕ) (lists : List (List ℕ)) (v : ℕ) (list : List ℕ) → v < length lists
    → times_in x (slice_set lists v list) + times x (route lists v) ≡ times_in x lists + times x list
times_set x [] v list low = absurd (omega (arith, low))
times_set x (l ∷ ls) zero list low = omega arith
times_set x (l ∷ ls) (suc v) list low = let r = times_set x ls v list (omega (arith, low)) in omega (arith, r)

pub here_or_later : (x y : ℕ) → ((x ≡ y) × (hit x y ≡ 1)) ⊎ (hit x y ≡ 0)
here_or_later x y = elim (eqb_tells x y) [
  | inl same ↦ inl (same.1, ap (λ t. cond t 1 0) same.0)
  | inr other ↦ inr (ap (λ t. cond t 1 0) other.0)
]

-- where a number stands that stands once or more
pub one_place : (x : ℕ) (xs : List ℕ) → 1 ≤ times x xs → (k : ℕ) × (k < length xs) × (slice_index xs k ≡ x)
one_place x [] h = absurd (omega (arith, h))
one_place x (y ∷ ys) h = elim (here_or_later x y) [
  | inl here ↦ (0, omega arith, sym here.0)
  | inr later ↦ (let r = one_place x ys (omega (arith, h, later)) in (suc r.0, (let low = r.1 in omega (arith, low)), r.2))
]

pub two_places : (x : ℕ) (xs : List ℕ) → 2 ≤ times x xs → (j : ℕ) × (k : ℕ) × (j < k) × (k < length xs) × (slice_index xs j ≡ x) × (slice_index xs k ≡ x)
two_places x [] h = absurd (omega (arith, h))
two_places x (y ∷ ys) h = elim (here_or_later x y) [
  | inl here ↦ (let e = here.1 in
      let r = one_place x ys (omega (arith, h, e)) in
      (0, suc r.0, omega arith, (let low = r.1 in omega (arith, low)), sym here.0, r.2))
  | inr later ↦ (let r = two_places x ys (omega (arith, h, later)) in
      (suc r.0, suc r.1, (let low = r.2 in omega (arith, low)), (let low = r.3 in omega (arith, low)), r.4, r.5))
]

pub at_least_one : (x : ℕ) (xs : List ℕ) (k : ℕ) → k < length xs → slice_index xs k ≡ x → 1 ≤ times x xs
at_least_one x [] k low e = absurd (omega (arith, low))
at_least_one x (y ∷ ys) zero low e = elim (here_or_later x y) [
  | inl here ↦ (let one = here.1 in omega (arith, one))
  | inr later ↦ absurd (elim (eqb_tells x y) [
    | inl same ↦ (let one : hit x y ≡ 1 = ap (λ t. cond t 1 0) same.0 in omega (arith, one, later))
    | inr other ↦ other.1 (sym e)
  ])
]
at_least_one x (y ∷ ys) (suc k) low e = let r = at_least_one x ys k (omega (arith, low)) e in omega (arith, r)

pub at_least_two : (x : ℕ) (xs : List ℕ) (j k : ℕ) → j < k → k < length xs → slice_index xs j ≡ x → slice_index xs k ≡ x → 2 ≤ times x xs
at_least_two x [] j k order low e f = absurd (omega (arith, low))
at_least_two x (y ∷ ys) j zero order low e f = absurd (omega (arith, order))
at_least_two x (y ∷ ys) zero (suc k) order low e f =
    let later = at_least_one x ys k (omega (arith, low)) f in
    let here = at_least_one x (y ∷ []) 0 (omega arith) e in
    omega (arith, later, here)
at_least_two x (y ∷ ys) (suc j) (suc k) order low e f = let r = at_least_two x ys j k (omega (arith, order)) (omega (arith, low)) e f in omega (arith, r)

-- ---- lists joined

pub joined_times : (x : ℕ) (lists : List (List ℕ)) → times x (concat lists) ≡ times_in x lists
joined_times x [] = refl
joined_times x (l ∷ ls) = let a = times_append x l (concat ls) in let r = joined_times x ls in omega (arith, a, r)

pub held_times : (x : ℕ) (xs : List ℕ) → IsTrue (holds xs x) → 1 ≤ times x xs
held_times x xs h = let p = place_of_held xs x h in at_least_one x xs p.0 p.1 p.2

pub times_held : (x : ℕ) (xs : List ℕ) → 1 ≤ times x xs → IsTrue (holds xs x)
times_held x xs h = let p = one_place x xs h in held_at xs x p.0 p.1 p.2

-- no number stands twice where each stands once at most
pub distinct_of_times : (xs : List ℕ) → ((x : ℕ) → times x xs ≤ 1) → IsTrue (is_distinct xs)
distinct_of_times [] few = refl
distinct_of_times (y ∷ ys) few = and_both (not (holds ys y)) _ (ap not (fails (holds ys y) (λ h.
    let later = held_times y ys h in
    let here = at_least_one y (y ∷ []) 0 (omega arith) refl in
    let all = few y in
    omega (arith, later, here, all)))) (distinct_of_times ys (λ x. let all = few x in omega (arith, all)))

pub times_of_distinct : (xs : List ℕ) → IsTrue (is_distinct xs) → (x : ℕ) → times x xs ≤ 1
times_of_distinct [] h x = omega arith
times_of_distinct (y ∷ ys) h x =
    let rest = times_of_distinct ys (and_right (not (holds ys y)) _ h) x in
    elim (here_or_later x y) [
      | inl same ↦ elim (cases_lt 0 (times x ys)) [
        | inl some ↦ absurd
            (clash (holds ys y) (subst (λ z. IsTrue (holds ys z)) same.0 (times_held x ys some)) (fails_not (holds ys y) (and_left (not (holds ys y)) _ h)))
        | inr free ↦ (let one = same.1 in omega (arith, one, free))
      ]
      | inr other ↦ omega (arith, rest, other)
    ]

-- a test that all numbers of a list pass
pub all_held : (p : ℕ → Bool) (xs : List ℕ) → IsTrue (list_all p xs) → (x : ℕ) → IsTrue (holds xs x) → IsTrue (p x)
all_held p [] h x held = absurd (clash false held refl)
all_held p (y ∷ ys) h x held = elim (or_cases (x == y) _ held) [
  | inl here ↦ subst (λ z. IsTrue (p z)) (sym (eq_of_test x y here)) (and_left (p y) _ h)
  | inr later ↦ all_held p ys (and_right (p y) _ h) x later
]

pub all_of_held : (p : ℕ → Bool) (xs : List ℕ) → ((x : ℕ) → IsTrue (holds xs x) → IsTrue (p x)) → IsTrue (list_all p xs)
all_of_held p [] each = refl
all_of_held p (y ∷ ys) each =
    and_both (p y) _ (each y (or_left (y == y) _ (test_of_eq y y refl))) (all_of_held p ys (λ x held. each x (or_right (x == y) _ held)))

-- a list that stands among others
pub times_route : (x : ℕ) (lists : List (List ℕ)) (v : ℕ) → times x (route lists v) ≤ times_in x lists
times_route x [] v = omega arith
times_route x (l ∷ ls) zero = omega arith
times_route x (l ∷ ls) (suc v) = let r = times_route x ls v in omega (arith, r)

-- two lists among others
pub times_routes : (x : ℕ) (lists : List (List ℕ)) (v w : ℕ) → v < w → times x (route lists v) + times x (route lists w) ≤ times_in x lists
times_routes x [] v w order = omega arith
times_routes x (l ∷ ls) v zero order = absurd (omega (arith, order))
times_routes x (l ∷ ls) zero (suc w) order = let r = times_route x ls w in omega (arith, r)
times_routes x (l ∷ ls) (suc v) (suc w) order = let r = times_routes x ls v w (omega (arith, order)) in omega (arith, r)
