-- Ranges of numbers, and the lists made of them.
use Rattle.std.proofs.Common.{◌≡◌, ◌∙◌, ℕ, zero, suc, ◌+◌, ◌-◌, ◌<◌, ◌≤◌, Bool, true, false, cond, List, [], ◌∷◌, ◌++◌, map, length, length-append, refl, sym}
use Rattle.std.proofs.Common.{ap, ap₂, subst, inl, inr, arith}
use Rattle.std.specs.Prelude.{filter, slice_index}
use Rattle.std.specs.List.{range_with_len}
use Rattle.std.proofs.lemmas.Bool.{cases_lt}
use Rattle.std.proofs.lemmas.List.{map-append}
use Rattle.std.proofs.lemmas.List.Elements.{filter-append}
use Rattle.vr_model.proofs.tables.Ranges.{all_left, none_left}
use Rattle.vr_model.specs.tables.Numbers.{below, from_to, each}
use Rattle.vr_known.specs.Nests.{run_of, joined_of}

pub from_to_step : (a b : ℕ) → a < b → from_to a b ≡ a ∷ from_to (a + 1) b
from_to_step a b low = let e : b - a ≡ suc (b - (a + 1)) = omega (arith, low) in ap (range_with_len a) e

-- a range in two
pub range_split : (a m b : ℕ) → a ≤ m → m ≤ b → from_to a b ≡ from_to a m ++ from_to m b
range_split a m b order within =
    let e : (m - a) + (b - m) ≡ b - a = omega (arith, order, within) in
    let f : a + (m - a) ≡ m = omega (arith, order) in
    ap (range_with_len a) (sym e) ∙ (ranges (m - a) a (b - m) ∙ ap (λ k. range_with_len a (m - a) ++ range_with_len k (b - m)) f)
  where
    ranges : (n a k : ℕ) → range_with_len a (n + k) ≡ range_with_len a n ++ range_with_len (a + n) k
    ranges zero a k = ap₂ range_with_len (let e : a ≡ a + 0 = omega arith in e) (let e : 0 + k ≡ k = omega arith in e)
    ranges (suc n) a k =
        let e : suc n + k ≡ suc (n + k) = omega arith in
        let f : (a + 1) + n ≡ a + suc n = omega arith in
        ap (range_with_len a) e ∙ ap (λ l. a ∷ l) (ranges n (a + 1) k ∙ ap (λ j. range_with_len (a + 1) n ++ range_with_len j k) f)

-- one number more of a range, where it passes
pub count_more : (p : ℕ → Bool) (a k : ℕ) → a ≤ k → length (filter p (from_to a (k + 1))) ≡ length (filter p (from_to a k)) + cond (p k) 1 0
count_more p a k order =
    ap (λ l. length (filter p l)) (range_split a k (k + 1) order (omega arith)
    ∙ ap (λ l. from_to a k ++ l) (from_to_step k (k + 1) (omega arith) ∙ ap (λ l. k ∷ l) (none_left (k + 1) (k + 1) (omega arith))))
    ∙ ap length (filter-append p (from_to a k) (k ∷ []))
    ∙ length-append (filter p (from_to a k)) (filter p (k ∷ []))
    ∙ ap (λ n. length (filter p (from_to a k)) + n) (by (p k))
  where
    by : (t : Bool) → length (cond t (k ∷ []) []) ≡ cond t 1 0
    by true = refl
    by false = refl

module _ {A : Type 0} (passes : ℕ → Bool) where
  pub run_takes : (f : ℕ → A) (a b : ℕ) → a < b → passes a ≡ true → run_of passes f a b ≡ f a ∷ run_of passes f (a + 1) b
  run_takes f a b low there =
      ap (λ l. map f (filter passes l)) (from_to_step a b low)
      ∙ ap (λ t. map f (cond t (a ∷ filter passes (from_to (a + 1) b)) (filter passes (from_to (a + 1) b)))) there

  pub run_skips : (f : ℕ → A) (a b : ℕ) → a < b → passes a ≡ false → run_of passes f a b ≡ run_of passes f (a + 1) b
  run_skips f a b low other =
      ap (λ l. map f (filter passes l)) (from_to_step a b low)
      ∙ ap (λ t. map f (cond t (a ∷ filter passes (from_to (a + 1) b)) (filter passes (from_to (a + 1) b)))) other

  pub run_ends : (f : ℕ → A) (a b : ℕ) → b ≤ a → run_of passes f a b ≡ []
  run_ends f a b past = ap (λ l. map f (filter passes l)) (none_left a b past)

  pub joined_goes_on : (f : ℕ → List A) (a b : ℕ) → a < b → joined_of passes f a b ≡ cond (passes a) (f a) [] ++ joined_of passes f (a + 1) b
  joined_goes_on f a b low = ap (λ l. each (filter passes l) f) (from_to_step a b low) ∙ by (passes a)
    where
      by : (t : Bool)
          → each (cond t (a ∷ filter passes (from_to (a + 1) b)) (filter passes (from_to (a + 1) b))) f ≡ cond t (f a) [] ++ joined_of passes f (a + 1) b
      by true = refl
      by false = refl

  -- what the first number gives stands in front of the others
  pub joined_opens : (f : ℕ → List A) (a b : ℕ) (opened : List A) → a < b
      → opened ≡ cond (passes a) (f a) [] → opened ++ joined_of passes f (a + 1) b ≡ joined_of passes f a b
  joined_opens f a b opened low is = ap (λ l. l ++ joined_of passes f (a + 1) b) is ∙ sym (joined_goes_on f a b low)

  pub joined_ends : (f : ℕ → List A) (a b : ℕ) → b ≤ a → joined_of passes f a b ≡ []
  joined_ends f a b past = ap (λ l. each (filter passes l) f) (none_left a b past)

-- ---- ranges of which all numbers pass

pub filter_all : (xs : List ℕ) → filter (λ k. true) xs ≡ xs
filter_all [] = refl
filter_all (x ∷ xs) = ap (λ l. x ∷ l) (filter_all xs)

pub run_all : {A : Type 0} (f : ℕ → A) (a b : ℕ) → run_of (λ k. true) f a b ≡ map f (from_to a b)
run_all f a b = ap (map f) (filter_all (from_to a b))

pub run_below : {A : Type 0} (passes : ℕ → Bool) (f : ℕ → A) (n : ℕ) → run_of passes f 0 n ≡ map f (filter passes (below n))
run_below passes f n = ap (λ l. map f (filter passes l)) (all_left n)

pub run_all_below : {A : Type 0} (f : ℕ → A) (n : ℕ) → run_of (λ k. true) f 0 n ≡ map f (below n)
run_all_below f n = run_all f 0 n ∙ ap (map f) (all_left n)

pub joined_all : {A : Type 0} (f : ℕ → List A) (a b : ℕ) → joined_of (λ k. true) f a b ≡ each (from_to a b) f
joined_all f a b = ap (λ l. each l f) (filter_all (from_to a b))

pub joined_below : {A : Type 0} (passes : ℕ → Bool) (f : ℕ → List A) (n : ℕ) → joined_of passes f 0 n ≡ each (filter passes (below n)) f
joined_below passes f n = ap (λ l. each (filter passes l) f) (all_left n)

pub joined_all_below : {A : Type 0} (f : ℕ → List A) (n : ℕ) → joined_of (λ k. true) f 0 n ≡ each (below n) f
joined_all_below f n = joined_all f 0 n ∙ ap (λ l. each l f) (all_left n)

-- ---- the places of a list

each_later : {A : Type 0} (g : ℕ → List A) (a n : ℕ) → each (range_with_len (suc a) n) g ≡ each (range_with_len a n) (λ k. g (suc k))
each_later g a zero = refl
each_later g a (suc n) =
    ap (λ l. g (suc a) ++ l) (ap (λ b. each (range_with_len b n) g) (let e : suc a + 1 ≡ suc (a + 1) = omega arith in e) ∙ each_later g (a + 1) n)

pub each_places : {A : Type 0} (f : ℕ → List A) (xs : List ℕ) → each (below (length xs)) (λ k. f (slice_index xs k)) ≡ each xs f
each_places f [] = refl
each_places f (x ∷ xs) = ap (λ l. f x ++ l)
    (ap (λ b. each (range_with_len b (length xs)) (λ k. f (slice_index (x ∷ xs) k))) (let e : 0 + 1 ≡ 1 = omega arith in e)
    ∙ each_later (λ k. f (slice_index (x ∷ xs) k)) 0 (length xs) ∙ each_places f xs)

map_later : {A : Type 0} (g : ℕ → A) (a n : ℕ) → map g (range_with_len (suc a) n) ≡ map (λ k. g (suc k)) (range_with_len a n)
map_later g a zero = refl
map_later g a (suc n) =
    ap (λ l. g (suc a) ∷ l) (ap (λ b. map g (range_with_len b n)) (let e : suc a + 1 ≡ suc (a + 1) = omega arith in e) ∙ map_later g (a + 1) n)

pub map_places : {A : Type 0} (f : ℕ → A) (xs : List ℕ) → map (λ k. f (slice_index xs k)) (below (length xs)) ≡ map f xs
map_places f [] = refl
map_places f (x ∷ xs) = ap (λ l. f x ∷ l)
    (ap (λ b. map (λ k. f (slice_index (x ∷ xs) k)) (range_with_len b (length xs))) (let e : 0 + 1 ≡ 1 = omega arith in e)
    ∙ map_later (λ k. f (slice_index (x ∷ xs) k)) 0 (length xs) ∙ map_places f xs)

-- ---- tests and lists that agree on a range

filter_same_from : (p q : ℕ → Bool) (a n : ℕ) → ((k : ℕ) → a ≤ k → k < a + n → p k ≡ q k) → filter p (range_with_len a n) ≡ filter q (range_with_len a n)
filter_same_from p q a zero same = refl
filter_same_from p q a (suc n) same =
    ap (λ t. cond t (a ∷ filter p (range_with_len (a + 1) n)) (filter p (range_with_len (a + 1) n))) (same a (omega arith) (omega arith))
    ∙ ap (λ l. cond (q a) (a ∷ l) l) (filter_same_from p q (a + 1) n (λ k low high. same k (omega (arith, low)) (omega (arith, high))))

pub filter_same : (p q : ℕ → Bool) (a b : ℕ) → ((k : ℕ) → a ≤ k → k < b → p k ≡ q k) → filter p (from_to a b) ≡ filter q (from_to a b)
filter_same p q a b same = filter_same_from p q a (b - a) (λ k low high. same k low (omega (arith, low, high)))

each_same_from : {A : Type 0} (f g : ℕ → List A) (a n : ℕ) → ((k : ℕ) → k < a + n → f k ≡ g k) → each (range_with_len a n) f ≡ each (range_with_len a n) g
each_same_from f g a zero same = refl
each_same_from f g a (suc n) same =
    ap (λ l. l ++ each (range_with_len (a + 1) n) f) (same a (omega arith))
    ∙ ap (λ l. g a ++ l) (each_same_from f g (a + 1) n (λ k high. same k (omega (arith, high))))

pub each_same : {A : Type 0} (f g : ℕ → List A) (n : ℕ) → ((k : ℕ) → k < n → f k ≡ g k) → each (below n) f ≡ each (below n) g
each_same f g n same = each_same_from f g 0 n (λ k high. same k (omega (arith, high)))

-- ---- the front of a range of which all numbers pass

map_same_from : {A : Type 0} (f g : ℕ → A) (a n : ℕ) → ((k : ℕ) → f k ≡ g k) → map f (range_with_len a n) ≡ map g (range_with_len a n)
map_same_from f g a zero same = refl
map_same_from f g a (suc n) same = ap (λ x. x ∷ map f (range_with_len (a + 1) n)) (same a) ∙ ap (λ l. g a ∷ l) (map_same_from f g (a + 1) n same)

pub run_in_front : {A : Type 0} (passes : ℕ → Bool) (f g : ℕ → A) (a m b : ℕ) → a ≤ m
    → m ≤ b → ((k : ℕ) → a ≤ k → k < m → passes k ≡ true) → ((k : ℕ) → g k ≡ f k)
    → run_of passes f a b ≡ map g (from_to a m) ++ run_of passes f m b
run_in_front passes f g a m b order within all same =
    ap (λ l. map f (filter passes l)) (range_split a m b order within)
    ∙ ap (map f) (filter-append passes (from_to a m) (from_to m b))
    ∙ map-append f (filter passes (from_to a m)) (filter passes (from_to m b))
    ∙ ap (λ l. map f l ++ run_of passes f m b) (filter_same passes (λ k. true) a m all ∙ filter_all (from_to a m))
    ∙ ap (λ l. l ++ run_of passes f m b) (sym (map_same_from g f a (m - a) same))

-- one number more that passes
pub all_more : (p : ℕ → Bool) (a m : ℕ) → ((k : ℕ) → a ≤ k → k < m → p k ≡ true) → p m ≡ true → (k : ℕ) → a ≤ k → k < m + 1 → p k ≡ true
all_more p a m all here k low high = elim (cases_lt k m) [
  | inl less ↦ all k low less
  | inr more ↦ (let same : m ≡ k = omega (arith, more, high) in subst (λ j. p j ≡ true) same here)
]
