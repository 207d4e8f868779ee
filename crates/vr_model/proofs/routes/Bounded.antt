-- Sums and products of numbers that lie in 0..=n.
use Rattle.std.proofs.Common.{◌≡◌, ℕ, zero, suc, ◌+◌, ◌*◌, ◌<◌, ◌≤◌, ◌⊎◌, Bool, true, false, cond, List, [], ◌∷◌, length, refl, sym, ◌∙◌, ap, subst, inl, inr}
use Rattle.std.proofs.Common.{arith}
use Rattle.std.specs.Prelude.{ℤ, pos, negsuc, ◌*ℤ◌, ◌≤ℤ◌, All, fold}
use Rattle.std.specs.Int.{int_max, int_min}
use Rattle.std.specs.List.{concat}
use Rattle.std.proofs.lemmas.Int.{ints, int_max_is, int_min_is}
use Rattle.std.proofs.lemmas.List.{length-append}
use Rattle.std.proofs.Math.Nat.{add-mul, zero-mul, suc-mul, mul-le-mul}
use Rattle.vr_model.specs.tables.Numbers.{total_by}
use Rattle.vr_model.specs.tables.WellFormed.{IsIn}
use Rattle.vr_model.specs.routes.Routes.{route}
use Rattle.vr_model.proofs.tables.Totals.{sum_range}

-- a number in 0..=n
abbrev pub IsUpTo : ℕ → ℤ → Type 0
IsUpTo n x = IsIn (pos 0) (pos n) x

pub up_to-more : {m n : ℕ} (x : ℤ) → IsUpTo m x → m ≤ n → IsUpTo n x
up_to-more x h more = record { at_least = h.at_least; at_most = omega (arith, ints, h.at_most, more) }

pub up_to-zero : (n : ℕ) → IsUpTo n (pos 0)
up_to-zero n = record { at_least = omega (arith, ints); at_most = omega (arith, ints) }

pub up_to-cond : (n : ℕ) (b : Bool) (x : ℤ) → (b ≡ false → IsUpTo n x) → IsUpTo n (cond b (pos 0) x)
up_to-cond n true x h = up_to-zero n
up_to-cond n false x h = h refl

-- ---- sums over ranges

-- a sum of counts over a range
pub counts : (ℕ → ℕ) → ℕ → ℕ → ℕ
counts w a zero = 0
counts w a (suc n) = w a + counts w (a + 1) n

pub sum-up_to : (f : ℕ → ℤ) (w : ℕ → ℕ) (a n : ℕ) → ((i : ℕ) → a ≤ i → i < a + n → IsUpTo (w i) (f i)) → IsUpTo (counts w a n) (sum_range f a n)
unfolding counts
sum-up_to f w a zero h = up_to-zero 0
sum-up_to f w a (suc n) h =
    let x = h a (omega arith) (omega arith) in
    let y = sum-up_to f w (a + 1) n (λ i low high. h i (omega (arith, low)) (omega (arith, high))) in
    record { at_least = omega (arith, ints, x.at_least, y.at_least); at_most = omega (arith, ints, x.at_most, y.at_most) }

counts-times : (w : ℕ → ℕ) (c a n : ℕ) → counts (λ i. w i * c) a n ≡ counts w a n * c
unfolding counts
counts-times w c a zero = sym (zero-mul c)
counts-times w c a (suc n) = ap (λ z. w a * c + z) (counts-times w c (a + 1) n) ∙ sym (add-mul (w a) (counts w (a + 1) n) c)

pub counts-same : (c a n : ℕ) → counts (λ i. c) a n ≡ n * c
unfolding counts
counts-same c a zero = sym (zero-mul c)
counts-same c a (suc n) = let i = counts-same c (a + 1) n in let s = suc-mul n c in omega (arith, i, s)

counts-plus : (w : ℕ → ℕ) (e a n : ℕ) → counts (λ i. w i + e) a n ≡ counts w a n + n * e
unfolding counts
counts-plus w e a zero = let z = zero-mul e in omega (arith, z)
counts-plus w e a (suc n) = let i = counts-plus w e (a + 1) n in let s = suc-mul n e in omega (arith, i, s)

counts-lists : (lists whole : List (List ℕ)) (a : ℕ) → ((i : ℕ) → i < length lists → route whole (a + i) ≡ route lists i)
    → counts (λ v. length (route whole v)) a (length lists) ≡ length (concat lists)
unfolding counts
counts-lists [] whole a h = refl
counts-lists (list ∷ lists) whole a h =
    let e : a + 0 ≡ a = omega arith in
    let here = ap (λ k. length (route whole k)) (sym e) ∙ ap length (h 0 (omega arith)) in
    let later = counts-lists lists whole (a + 1)
    (λ i low. (let f : (a + 1) + i ≡ a + suc i = omega arith in ap (route whole) f) ∙ h (suc i) (omega (arith, low))) in
    let all = length-append list (concat lists) in
    omega (arith, here, later, all)

-- a sum over vehicles, of which each gives at most c for each visit of its list and each of e further stops
pub lists-up_to : (lists : List (List ℕ)) (f : ℕ → ℤ) (e c : ℕ) → ((v : ℕ) → v < length lists → IsUpTo ((length (route lists v) + e) * c) (f v))
    → IsUpTo ((length (concat lists) + length lists * e) * c) (sum_range f 0 (length lists))
lists-up_to lists f e c h =
    let s = sum-up_to f (λ v. (length (route lists v) + e) * c) 0 (length lists) (λ v low high. h v (omega (arith, high))) in
    let t = counts-times (λ v. length (route lists v) + e) c 0 (length lists) in
    let p = counts-plus (λ v. length (route lists v)) e 0 (length lists) in
    let l = counts-lists lists lists 0 (λ i low. (let z : 0 + i ≡ i = omega arith in ap (route lists) z)) in
    let whole : counts (λ v. (length (route lists v) + e) * c) 0 (length lists) ≡ (length (concat lists) + length lists * e) * c = t
    ∙ ap (λ n. n * c) (p ∙ ap (λ n. n + length lists * e) l) in
    subst (λ n. IsUpTo n (sum_range f 0 (length lists))) whole s

-- a sum over a range of which each number gives at most c
pub range-up_to : (f : ℕ → ℤ) (c n : ℕ) → ((i : ℕ) → i < n → IsUpTo c (f i)) → IsUpTo (n * c) (sum_range f 0 n)
range-up_to f c n h = subst (λ m. IsUpTo m (sum_range f 0 n)) (counts-same c 0 n) (sum-up_to f (λ i. c) 0 n (λ i low high. h i (omega (arith, high))))

-- a sum over a list of which each entry gives at most c
pub total-up_to : {A : Type 0} (f : A → ℤ) (c : ℕ) (xs : List A) → All (λ x. IsUpTo c (f x)) xs → IsUpTo (length xs * c) (total_by f xs)
total-up_to f c [] h = up_to-zero (0 * c)
total-up_to f c (x ∷ xs) h =
    let here = h 0 x (omega arith) in
    let later = total-up_to f c xs (λ k d low. h (suc k) d (omega (arith, low))) in
    let s = suc-mul (length xs) c in
    record { at_least = omega (arith, ints, here.at_least, later.at_least); at_most = omega (arith, ints, here.at_most, later.at_most, s) }

-- ---- products

pub product-up_to : (m n : ℕ) (a x : ℤ) → IsUpTo m a → x ≤ℤ pos n → (a ≡ pos 0) ⊎ (pos 0 ≤ℤ x) → IsUpTo (m * n) (a *ℤ x)
product-up_to m n (pos zero) (pos j) h high some = record { at_least = omega (arith, ints); at_most = omega (arith, ints) }
product-up_to m n (pos zero) (negsuc j) h high some = record { at_least = omega (arith, ints); at_most = omega (arith, ints) }
product-up_to m n (pos (suc k)) (pos j) h high some =
    let a : suc k ≤ m = omega (arith, ints, h.at_most) in
    let b : j ≤ n = omega (arith, ints, high) in
    let p : suc k * j ≤ m * n = mul-le-mul a b in
    record { at_least = omega (arith, ints); at_most = omega (arith, ints, p) }
product-up_to m n (pos (suc k)) (negsuc j) h high (inl none) = absurd (omega (arith, ints, none))
product-up_to m n (pos (suc k)) (negsuc j) h high (inr some) = absurd (omega (arith, ints, some))
product-up_to m n (negsuc k) x h high some = absurd (let l = h.at_least in omega (arith, ints, l))

-- ---- the greatest and the least of several numbers

pub fold-max_least : (x : ℤ) (xs : List ℤ) → x ≤ℤ fold int_max x xs
fold-max_least x [] = omega (arith, ints)
fold-max_least x (y ∷ ys) = let i = fold-max_least (int_max x y) ys in let m = int_max_is x y in omega (arith, ints, i, m)

pub fold-max_most : (n : ℕ) (x : ℤ) (xs : List ℤ) → x ≤ℤ pos n → All (λ y. y ≤ℤ pos n) xs → fold int_max x xs ≤ℤ pos n
fold-max_most n x [] h each = h
fold-max_most n x (y ∷ ys) h each =
    let m = int_max_is x y in let g = each 0 y (omega arith) in
    fold-max_most n (int_max x y) ys (omega (arith, ints, m, h, g)) (λ k d low. each (suc k) d (omega (arith, low)))

pub fold-min_most : (x : ℤ) (xs : List ℤ) → fold int_min x xs ≤ℤ x
fold-min_most x [] = omega (arith, ints)
fold-min_most x (y ∷ ys) = let i = fold-min_most (int_min x y) ys in let m = int_min_is x y in omega (arith, ints, i, m)

pub fold-min_least : (x : ℤ) (xs : List ℤ) → pos 0 ≤ℤ x → All (λ y. pos 0 ≤ℤ y) xs → pos 0 ≤ℤ fold int_min x xs
fold-min_least x [] h each = h
fold-min_least x (y ∷ ys) h each =
    let m = int_min_is x y in let g = each 0 y (omega arith) in
    fold-min_least (int_min x y) ys (omega (arith, ints, m, h, g)) (λ k d low. each (suc k) d (omega (arith, low)))
