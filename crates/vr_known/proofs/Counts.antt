-- How many moves a range has.
use Rattle.std.proofs.Common.{◌≡◌, ◌∙◌, ℕ, zero, suc, ◌+◌, ◌-◌, ◌<◌, ◌≤◌, Bool, true, false, cond, ◌∷◌, length, refl, sym, ap, arith, inl, inr}
use Rattle.std.specs.Prelude.{◌==◌, filter}
use Rattle.std.specs.List.{range_with_len}
use Rattle.std.proofs.lemmas.Bool.{cases_lt}
use Rattle.std.proofs.lemmas.List.FromFn.{length-range_with_len}
use Rattle.vr_model.specs.tables.Numbers.{below, from_to}
use Rattle.vr_model.proofs.tables.Ranges.{all_left}
use Rattle.vr_known.proofs.NestLemmas.{filter_all, filter_same, from_to_step}
use Rattle.vr_model.specs.moves.Moves.{is_other, has_some_front}

count_passing_below : (p : ℕ → Bool) (a n : ℕ) → ((k : ℕ) → a ≤ k → k < a + n → p k ≡ true) → length (filter p (range_with_len a n)) ≡ n
count_passing_below p a zero h = refl
count_passing_below p a (suc n) h =
    ap (λ t. length (cond t (a ∷ filter p (range_with_len (a + 1) n)) (filter p (range_with_len (a + 1) n)))) (h a (omega arith) (omega arith))
    ∙ ap suc (count_passing_below p (a + 1) n (λ k low high. h k (omega (arith, low)) (omega (arith, high))))

count_passing : (p : ℕ → Bool) (a n : ℕ) → ((k : ℕ) → a ≤ k → p k ≡ true) → length (filter p (range_with_len a n)) ≡ n
count_passing p a n h = count_passing_below p a n (λ k low _. h k low)

is_other_above : (x k : ℕ) → x < k → is_other x k ≡ true
is_other_above x k low = Prim.grind arith

is_other_below : (x k : ℕ) → k < x → is_other x k ≡ true
is_other_below x k low = Prim.grind arith

is_other_same : (x k : ℕ) → x ≡ k → is_other x k ≡ false
is_other_same x k e = Prim.grind arith

step_other : (x a m : ℕ) → is_other x a ≡ true
    → length (filter (is_other x) (range_with_len a (suc m))) ≡ suc (length (filter (is_other x) (range_with_len (a + 1) m)))
step_other x a m e = ap (λ t. length (cond t (a ∷ filter (is_other x) (range_with_len (a + 1) m)) (filter (is_other x) (range_with_len (a + 1) m)))) e

step_same : (x a m : ℕ) → is_other x a ≡ false
    → length (filter (is_other x) (range_with_len a (suc m))) ≡ length (filter (is_other x) (range_with_len (a + 1) m))
step_same x a m e = ap (λ t. length (cond t (a ∷ filter (is_other x) (range_with_len (a + 1) m)) (filter (is_other x) (range_with_len (a + 1) m)))) e

count_but_one : (x n a : ℕ) → a ≤ x → x < a + suc n → length (filter (is_other x) (range_with_len a (suc n))) ≡ n
count_but_one x zero a low high = step_same x a zero (is_other_same x a (omega (arith, low, high)))
count_but_one x (suc n) a low high = elim (cases_lt a x) [
  | inl more ↦ step_other x a (suc n) (is_other_below x a more) ∙ ap suc (count_but_one x n (a + 1) (omega (arith, more)) (omega (arith, high)))
  | inr same ↦ step_same x a (suc n) (is_other_same x a (omega (arith, same, low)))
      ∙ count_passing (is_other x) (a + 1) (suc n) (λ k above. is_other_above x k (omega (arith, above, same)))
]

front_there : (a k : ℕ) → 1 ≤ k → has_some_front a k ≡ true
front_there a k low = Prim.grind arith

front_behind : (a k : ℕ) → 1 ≤ a → has_some_front a k ≡ true
front_behind a k low = Prim.grind arith

-- the places before which a front may end, where the other one ends before place a
pub fronts : (a n : ℕ) → filter (has_some_front a) (below (suc n)) ≡ from_to (cond (a == 0) 1 0) (suc n)
fronts a n = by (a == 0) refl
  where
    by : (t : Bool) → (a == 0) ≡ t → filter (has_some_front a) (below (suc n)) ≡ from_to (cond t 1 0) (suc n)
    by true is =
        let none : has_some_front a 0 ≡ false = Prim.grind arith in
        let one : 0 + 1 ≡ 1 = omega arith in
        ap (filter (has_some_front a)) (sym (all_left (suc n)) ∙ from_to_step 0 (suc n) (omega arith))
        ∙ ap (λ t. cond t (0 ∷ filter (has_some_front a) (from_to (0 + 1) (suc n))) (filter (has_some_front a) (from_to (0 + 1) (suc n)))) none
        ∙ filter_same (has_some_front a) (λ k. true) (0 + 1) (suc n) (λ k low _. front_there a k (omega (arith, low)))
        ∙ filter_all (from_to (0 + 1) (suc n))
        ∙ ap (λ b. from_to b (suc n)) one
    by false is =
        let some : 1 ≤ a = Prim.grind arith in
        ap (filter (has_some_front a)) (sym (all_left (suc n)))
        ∙ filter_same (has_some_front a) (λ k. true) 0 (suc n) (λ k _ _. front_behind a k some)
        ∙ filter_all (from_to 0 (suc n))

-- ---- how many numbers of a part of a range have a move

pub many_all : (a b : ℕ) → length (filter (λ k. true) (from_to a b)) ≡ b - a
many_all a b = ap length (filter_all (from_to a b)) ∙ length-range_with_len a (b - a)

pub many_but_one : (x a b : ℕ) → a ≤ x → x < b → length (filter (is_other x) (from_to a b)) ≡ b - a - 1
many_but_one x a b low high =
    let e : b - a ≡ suc (b - a - 1) = omega (arith, low, high) in
    ap (λ n. length (filter (is_other x) (range_with_len a n))) e ∙ count_but_one x (b - a - 1) a low (omega (arith, low, high))

pub many_below : (x a b : ℕ) → b ≤ x → length (filter (is_other x) (from_to a b)) ≡ b - a
many_below x a b high = count_passing_below (is_other x) a (b - a) (λ k low under. is_other_below x k (omega (arith, low, under, high)))

pub many_above : (x a b : ℕ) → x < a → length (filter (is_other x) (from_to a b)) ≡ b - a
many_above x a b low = count_passing (is_other x) a (b - a) (λ k under. is_other_above x k (omega (arith, under, low)))
