-- How many of some nodes are active, counted along the lists.
use Rattle.std.proofs.Common.{◌≡◌, ◌∙◌, ℕ, zero, suc, ◌+◌, ◌≤◌, Bool, true, false, cond, List, [], ◌∷◌, sum_by, refl, sym, ap, ap₂, arith}
use Rattle.std.specs.Prelude.{◌==◌, IsTrue, count_by}
use Rattle.std.proofs.lemmas.List.Sums.{sum_by-cons}
use Rattle.vr_model.specs.deciding.Testing.{or_left, or_right, test_of_eq}
use Rattle.vr_model.specs.routes.Routes.{holds, is_active}
use Rattle.vr_model.proofs.tables.Tests.{clash, eq_turned}
use Rattle.vr_model.proofs.moves.Times.{hit, times, times_in, held_times, times_held}
use Rattle.vr_model.proofs.moves.Kept.{inactive_times}
use Rattle.vr_routes.specs.Seats.{IsOnce}
use Rattle.vr_routes.proofs.SeatLemmas.{seat_of_active}
use Rattle.vr_routes.proofs.OnceLemmas.{few_times, times_of_seat}
use Rattle.vr_balance.specs.Balances.{over_lists}

-- ---- sums

pub sum-same : {A : Type 0} (f g : A → ℕ) → ((x : A) → f x ≡ g x) → (xs : List A) → sum_by f xs ≡ sum_by g xs
sum-same f g same [] = refl
sum-same f g same (x ∷ xs) = sum_by-cons f x xs ∙ (ap₂ (λ a b. a + b) (same x) (sum-same f g same xs) ∙ sym (sum_by-cons g x xs))

pub sum-none : {A : Type 0} (xs : List A) → sum_by (λ x. 0) xs ≡ 0
sum-none [] = refl
sum-none {A} (x ∷ xs) =
    let c : sum_by (λ (y : A). 0) (x ∷ xs) ≡ 0 + sum_by (λ (y : A). 0) xs = sum_by-cons (λ y. 0) x xs in
    let i = sum-none xs in
    omega (arith, c, i)

pub sum-plus : {A : Type 0} (f g : A → ℕ) (xs : List A) → sum_by (λ x. f x + g x) xs ≡ sum_by f xs + sum_by g xs
sum-plus f g [] = refl
sum-plus f g (x ∷ xs) =
    let c = sum_by-cons (λ x. f x + g x) x xs in
    let d = sum_by-cons f x xs in
    let e = sum_by-cons g x xs in
    let i = sum-plus f g xs in
    omega (arith, c, d, e, i)

-- the entries of one list
pub sum-held : (f g : ℕ → ℕ) (xs : List ℕ) → ((x : ℕ) → IsTrue (holds xs x) → f x ≡ g x) → sum_by f xs ≡ sum_by g xs
sum-held f g [] same = refl
sum-held f g (x ∷ xs) same =
    let here = same x (or_left (x == x) (holds xs x) (test_of_eq x x refl)) in
    let rest = sum-held f g xs (λ y held. same y (or_right (y == x) (holds xs y) held)) in
    sum_by-cons f x xs ∙ (ap₂ (λ a b. a + b) here rest ∙ sym (sum_by-cons g x xs))

-- the entries of all lists
pub over-active : (f g : ℕ → ℕ) (lists : List (List ℕ)) → ((x : ℕ) → IsTrue (is_active lists x) → f x ≡ g x) → over_lists f lists ≡ over_lists g lists
over-active f g [] same = refl
over-active f g (l ∷ ls) same =
    let here = sum-held f g l (λ x held. same x (or_left (holds l x) (is_active ls x) held)) in
    let rest = over-active f g ls (λ x held. same x (or_right (holds l x) (is_active ls x) held)) in
    sum_by-cons (λ list. sum_by f list) l ls ∙ (ap₂ (λ a b. a + b) here rest ∙ sym (sum_by-cons (λ list. sum_by g list) l ls))

-- ---- the numbers that stand in both of two lists

hits : (x : ℕ) (ys : List ℕ) → sum_by (λ y. hit y x) ys ≡ times x ys
hits x [] = refl
hits x (y ∷ ys) =
    let c = sum_by-cons (λ y. hit y x) y ys in
    let e : hit y x ≡ hit x y = ap (λ b. cond b 1 0) (eq_turned y x) in
    let i = hits x ys in
    omega (arith, c, e, i)

-- counted along one, or along the other
pub times-turned : (xs ys : List ℕ) → sum_by (λ x. times x ys) xs ≡ sum_by (λ y. times y xs) ys
times-turned [] ys = sym (sum-none ys)
times-turned (x ∷ xs) ys =
    let c = sum_by-cons (λ x. times x ys) x xs in
    let s = sum-plus (λ y. hit y x) (λ y. times y xs) ys in
    let h = hits x ys in
    let i = times-turned xs ys in
    omega (arith, c, s, h, i)

-- the same along lists
in-lists : (nodes : List ℕ) (lists : List (List ℕ)) → sum_by (λ x. times_in x lists) nodes ≡ over_lists (λ y. times y nodes) lists
in-lists nodes [] = sum-none nodes
in-lists nodes (l ∷ ls) =
    let s = sum-plus (λ x. times x l) (λ x. times_in x ls) nodes in
    let t = times-turned nodes l in
    let i = in-lists nodes ls in
    let c = sum_by-cons (λ list. sum_by (λ y. times y nodes) list) l ls in
    omega (arith, s, t, i, c)

-- a number that stands once at most
pub times-held : (xs : List ℕ) (x : ℕ) → times x xs ≤ 1 → cond (holds xs x) 1 0 ≡ times x xs
times-held xs x few = by (holds xs x) refl
  where
    by : (b : Bool) → holds xs x ≡ b → cond b 1 0 ≡ times x xs
    by true e = let one = held_times x xs e in omega (arith, one, few)
    by false e = absent (times x xs) (λ some. clash (holds xs x) (times_held x xs some) e)
      where
        absent : (n : ℕ) → (1 ≤ n → ⊥) → 0 ≡ n
        absent zero none = refl
        absent (suc n) none = absurd (none (omega arith))

-- ---- active nodes

-- a node stands once where it is active
active-once : (lists : List (List ℕ)) → IsOnce lists → (x : ℕ) → cond (is_active lists x) 1 0 ≡ times_in x lists
active-once lists once x = by (is_active lists x) refl
  where
    by : (b : Bool) → is_active lists x ≡ b → cond b 1 0 ≡ times_in x lists
    by true e =
        let s = seat_of_active lists x e in
        let one = times_of_seat lists x s.0 s.1 s.2 in
        let few = few_times x lists (once x) in
        omega (arith, one, few)
    by false e = sym (inactive_times lists x e)

-- how many of some nodes are active
pub active-count : (lists : List (List ℕ)) → IsOnce lists → (nodes : List ℕ) → count_by (is_active lists) nodes ≡ over_lists (λ y. times y nodes) lists
active-count lists once nodes = sum-same (λ x. cond (is_active lists x) 1 0) (λ x. times_in x lists) (active-once lists once) nodes ∙ in-lists nodes lists
