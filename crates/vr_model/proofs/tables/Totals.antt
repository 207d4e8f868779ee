-- Sums over lists, and over ranges of places.
use Rattle.std.proofs.Common.{◌≡◌, ℕ, zero, suc, ◌+◌, ◌<◌, ◌≤◌, Bool, true, false, cond, not, List, [], ◌∷◌, ◌++◌, refl, sym, ◌∙◌, ap, ap₂, arith}
use Rattle.std.specs.Prelude.{ℤ, pos, ◌+ℤ◌, ◌-ℤ◌, ◌≤ℤ◌, filter}
use Rattle.std.specs.List.{range_with_len}
use Rattle.std.proofs.lemmas.Int.{ints}
use Rattle.std.proofs.lemmas.List.Elements.{filter-append}
use Rattle.vr_model.specs.tables.Numbers.{total_by, below}
use Rattle.vr_model.proofs.tables.Ranges.{below-more}

-- ---- sums over lists

pub total_by-append : {A : Type 0} (f : A → ℤ) (xs ys : List A) → total_by f (xs ++ ys) ≡ total_by f xs +ℤ total_by f ys
total_by-append f [] ys = omega (arith, ints)
total_by-append f (x ∷ xs) ys = omega (arith, ints, total_by-append f xs ys)

pub total_by-same : {A : Type 0} (f g : A → ℤ) → ((x : A) → f x ≡ g x) → (xs : List A) → total_by f xs ≡ total_by g xs
total_by-same f g h [] = refl
total_by-same f g h (x ∷ xs) = ap₂ (λ a b. a +ℤ b) (h x) (total_by-same f g h xs)

pub total_by-nothing : {A : Type 0} (xs : List A) → total_by (λ x. pos 0) xs ≡ pos 0
total_by-nothing [] = refl
total_by-nothing (x ∷ xs) = omega (arith, ints, total_by-nothing xs)

pub total_by-plus : {A : Type 0} (f g : A → ℤ) (xs : List A) → total_by (λ x. f x +ℤ g x) xs ≡ total_by f xs +ℤ total_by g xs
total_by-plus f g [] = omega (arith, ints)
total_by-plus f g (x ∷ xs) = omega (arith, ints, total_by-plus f g xs)

pub total_by-less : {A : Type 0} (f g : A → ℤ) (xs : List A) → total_by (λ x. f x -ℤ g x) xs ≡ total_by f xs -ℤ total_by g xs
total_by-less f g [] = omega (arith, ints)
total_by-less f g (x ∷ xs) = omega (arith, ints, total_by-less f g xs)

-- two sums in the other order
pub total_by-turned : {A B : Type 0} (f : A → B → ℤ) (xs : List A) (ys : List B)
    → total_by (λ a. total_by (f a) ys) xs ≡ total_by (λ b. total_by (λ a. f a b) xs) ys
total_by-turned f [] ys = sym (total_by-nothing ys)
total_by-turned f (x ∷ xs) ys = ap (λ s. total_by (f x) ys +ℤ s) (total_by-turned f xs ys) ∙ sym (total_by-plus (f x) (λ b. total_by (λ a. f a b) xs) ys)

-- a sum over the entries that fail a test is one over all of them
pub total_by-failing : {A : Type 0} (f : A → ℤ) (p : A → Bool) (xs : List A)
    → total_by f (filter (λ x. not (p x)) xs) ≡ total_by (λ x. cond (p x) (pos 0) (f x)) xs
total_by-failing f p [] = refl
total_by-failing {A} f p (x ∷ xs) = go (p x) (total_by-failing f p xs)
  where
    go : (b : Bool) → total_by f (filter (λ x. not (p x)) xs) ≡ total_by (λ x. cond (p x) (pos 0) (f x)) xs
        → total_by f (cond (not b) (x ∷ filter (λ x. not (p x)) xs) (filter (λ x. not (p x)) xs))
        ≡ cond b (pos 0) (f x) +ℤ total_by (λ x. cond (p x) (pos 0) (f x)) xs
    go true i = omega (arith, ints, i)
    go false i = omega (arith, ints, i)

-- ---- sums over the numbers below n

pub total_by-more : (f : ℕ → ℤ) (n : ℕ) → total_by f (below (n + 1)) ≡ total_by f (below n) +ℤ f n
total_by-more f n = ap (total_by f) (below-more n) ∙ total_by-append f (below n) (n ∷ []) ∙ omega (arith, ints)

total_by-chosen : (f : ℕ → ℤ) (b : Bool) (n : ℕ) → total_by f (cond b (n ∷ []) []) ≡ cond b (f n) (pos 0)
total_by-chosen f true n = omega (arith, ints)
total_by-chosen f false n = refl

-- the same over the numbers that pass a test
pub total_by-filter-more : (f : ℕ → ℤ) (p : ℕ → Bool) (n : ℕ)
    → total_by f (filter p (below (n + 1))) ≡ total_by f (filter p (below n)) +ℤ cond (p n) (f n) (pos 0)
total_by-filter-more f p n =
    ap (λ ns. total_by f (filter p ns)) (below-more n) ∙ ap (total_by f) (filter-append p (below n) (n ∷ []))
    ∙ total_by-append f (filter p (below n)) (cond (p n) (n ∷ []) []) ∙ ap (λ z. total_by f (filter p (below n)) +ℤ z) (total_by-chosen f (p n) n)

-- ---- sums over ranges

abbrev pub sum_range : (ℕ → ℤ) → ℕ → ℕ → ℤ
sum_range f a n = total_by f (range_with_len a n)

pub sum_same : (f g : ℕ → ℤ) (a n : ℕ) → ((i : ℕ) → a ≤ i → i < a + n → f i ≡ g i) → sum_range f a n ≡ sum_range g a n
sum_same f g a zero h = refl
sum_same f g a (suc n) h = ap₂ (λ x y. x +ℤ y) (h a (omega arith) (omega arith)) (sum_same f g (a + 1) n (λ i low high. h i (omega arith) (omega arith)))

pub sum_split : (f : ℕ → ℤ) (a m n : ℕ) → sum_range f a (m + n) ≡ sum_range f a m +ℤ sum_range f (a + m) n
sum_split f a zero n = let e : zero + n ≡ n = omega arith in let g : a + 0 ≡ a = omega arith in rw (e, g) (omega (arith, ints))
sum_split f a (suc m) n =
    let e : suc m + n ≡ suc (m + n) = omega arith in
    let g : a + suc m ≡ (a + 1) + m = omega arith in
    rw (e, g) (let i = sum_split f (a + 1) m n in omega (arith, ints, i))

pub sum_shift : (f : ℕ → ℤ) (c a n : ℕ) → sum_range f (c + a) n ≡ sum_range (λ i. f (c + i)) a n
sum_shift f c a zero = refl
sum_shift f c a (suc n) = let e : (c + a) + 1 ≡ c + (a + 1) = omega arith in ap (λ x. f (c + a) +ℤ x) (ap (λ b. sum_range f b n) e ∙ sum_shift f c (a + 1) n)

pub sum_not_negative : (f : ℕ → ℤ) (a n : ℕ) → ((i : ℕ) → a ≤ i → i < a + n → pos 0 ≤ℤ f i) → pos 0 ≤ℤ sum_range f a n
sum_not_negative f a zero h = omega (arith, ints)
sum_not_negative f a (suc n) h =
    let x = h a (omega arith) (omega arith) in
    let y = sum_not_negative f (a + 1) n (λ i low high. h i (omega arith) (omega arith)) in omega (arith, ints, x, y)

pub sum_nothing : (f : ℕ → ℤ) (a n : ℕ) → ((i : ℕ) → a ≤ i → i < a + n → f i ≡ pos 0) → sum_range f a n ≡ pos 0
sum_nothing f a zero h = refl
sum_nothing f a (suc n) h =
    let x = h a (omega arith) (omega arith) in
    let y = sum_nothing f (a + 1) n (λ i low high. h i (omega arith) (omega arith)) in omega (arith, ints, x, y)
