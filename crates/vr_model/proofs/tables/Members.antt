-- Members of lists that are made by ranges, filters and maps, nested in one another.
use Rattle.std.proofs.Common.{◌≡◌, ℕ, zero, suc, ◌+◌, ◌-◌, ◌<◌, ◌≤◌, Bool, true, false, cond, List, [], ◌∷◌, ◌++◌, length, map, refl, sym, ◌∙◌, ap, subst, inl}
use Rattle.std.proofs.Common.{inr, arith, ◌⊎◌}
use Rattle.std.specs.Prelude.{IsTrue, filter, slice_index_or}
use Rattle.std.specs.List.{Contains, range_with_len}
use Rattle.std.proofs.lemmas.Bool.{cases_lt}
use Rattle.vr_model.specs.tables.Numbers.{below, from_to, each}

-- x stands in a list
abbrev pub In : {A : Type 0} → List A → A → Type 0
In [] x = ⊥
In (y ∷ ys) x = (x ≡ y) ⊎ In ys x

pub of_contains : {A : Type 0} (xs : List A) (x : A) → Contains xs x → In xs x
of_contains [] x h = absurd (let l = h.1 in omega (arith, l))
of_contains (y ∷ ys) x h = go h.0 h.1 h.2 (λ k low e. of_contains ys x (k, low, e))
  where
    go : (k : ℕ) → k < suc (length ys) → slice_index_or (y ∷ ys) k x ≡ x → ((k : ℕ) → k < length ys → slice_index_or ys k x ≡ x → In ys x) → In (y ∷ ys) x
    go zero low e later = inl (sym e)
    go (suc k) low e later = inr (later k (omega (arith, low)) e)

pub to_contains : {A : Type 0} (xs : List A) (x : A) → In xs x → Contains xs x
to_contains [] x h = absurd h
to_contains (y ∷ ys) x (inl e) = (0, omega arith, sym e)
to_contains (y ∷ ys) x (inr h) = let r = to_contains ys x h in let l = r.1 in (suc r.0, omega (arith, l), r.2)

append_left : {A : Type 0} (xs ys : List A) (x : A) → In xs x → In (xs ++ ys) x
append_left [] ys x h = absurd h
append_left (z ∷ zs) ys x (inl e) = inl e
append_left (z ∷ zs) ys x (inr h) = inr (append_left zs ys x h)

append_right : {A : Type 0} (xs ys : List A) (x : A) → In ys x → In (xs ++ ys) x
append_right [] ys x h = h
append_right (z ∷ zs) ys x h = inr (append_right zs ys x h)

append_cases : {A : Type 0} (xs ys : List A) (x : A) → In (xs ++ ys) x → In xs x ⊎ In ys x
append_cases [] ys x h = inr h
append_cases (z ∷ zs) ys x (inl e) = inl (inl e)
append_cases (z ∷ zs) ys x (inr h) = elim (append_cases zs ys x h) [ inl g ↦ inl (inr g) | inr g ↦ inr g ]

-- ---- each

of_each : {A B : Type 0} (f : A → List B) (xs : List A) (y : B) → In (each xs f) y → (x : A) × In xs x × In (f x) y
of_each f [] y h = absurd h
of_each f (x ∷ xs) y h = elim (append_cases (f x) (each xs f) y h) [ inl g ↦ (x, inl refl, g) | inr g ↦ (let r = of_each f xs y g in (r.0, inr r.1, r.2)) ]

-- what holds wherever f has y holds
pub from_each : {A B C : Type 0} (f : A → List B) (xs : List A) (y : B) → In (each xs f) y → ((x : A) → In xs x → In (f x) y → C) → C
from_each f xs y h there = let r = of_each f xs y h in there r.0 r.1 r.2

pub to_each : {A B : Type 0} (f : A → List B) (xs : List A) (x : A) (y : B) → In xs x → In (f x) y → In (each xs f) y
to_each f [] x y h g = absurd h
to_each f (z ∷ zs) x y (inl e) g = append_left (f z) (each zs f) y (subst (λ w. In (f w) y) e g)
to_each f (z ∷ zs) x y (inr h) g = append_right (f z) (each zs f) y (to_each f zs x y h g)

-- ---- map

of_map : {A B : Type 0} (f : A → B) (xs : List A) (y : B) → In (map f xs) y → (x : A) × In xs x × (y ≡ f x)
of_map f [] y h = absurd h
of_map f (x ∷ xs) y (inl e) = (x, inl refl, e)
of_map f (x ∷ xs) y (inr h) = let r = of_map f xs y h in (r.0, inr r.1, r.2)

-- what holds wherever y is what f gives holds
pub from_map : {A B C : Type 0} (f : A → B) (xs : List A) (y : B) → In (map f xs) y → ((x : A) → In xs x → y ≡ f x → C) → C
from_map f xs y h there = let r = of_map f xs y h in there r.0 r.1 r.2

pub to_map : {A B : Type 0} (f : A → B) (xs : List A) (x : A) → In xs x → In (map f xs) (f x)
to_map f [] x h = absurd h
to_map f (y ∷ ys) x (inl e) = inl (ap f e)
to_map f (y ∷ ys) x (inr h) = inr (to_map f ys x h)

-- ---- filter

pub of_filter : {A : Type 0} (p : A → Bool) (xs : List A) (x : A) → In (filter p xs) x → In xs x × IsTrue (p x)
of_filter p [] x h = absurd h
of_filter p (y ∷ ys) x h = go (p y) refl h (of_filter p ys x)
  where
    go : (b : Bool) → p y ≡ b → In (cond b (y ∷ filter p ys) (filter p ys)) x → (In (filter p ys) x → In ys x × IsTrue (p x)) → In (y ∷ ys) x × IsTrue (p x)
    go true e (inl same) later = (inl same, subst (λ z. IsTrue (p z)) (sym same) e)
    go true e (inr g) later = (inr (later g).0, (later g).1)
    go false e g later = (inr (later g).0, (later g).1)

pub to_filter : {A : Type 0} (p : A → Bool) (xs : List A) (x : A) → In xs x → IsTrue (p x) → In (filter p xs) x
to_filter p [] x h t = absurd h
to_filter p (y ∷ ys) x h t = go (p y) refl h (λ g. to_filter p ys x g t)
  where
    clash : (b : Bool) → b ≡ true → b ≡ false → ⊥
    clash b e f = Prim.cc

    go : (b : Bool) → p y ≡ b → In (y ∷ ys) x → (In ys x → In (filter p ys) x) → In (cond b (y ∷ filter p ys) (filter p ys)) x
    go true e (inl same) later = inl same
    go true e (inr g) later = inr (later g)
    go false e (inl same) later = absurd (clash (p x) t (ap p same ∙ e))
    go false e (inr g) later = later g

-- ---- ranges

pub of_range : (a n k : ℕ) → In (range_with_len a n) k → (a ≤ k) × (k < a + n)
of_range a zero k h = absurd h
of_range a (suc n) k (inl e) = (omega (arith, e), omega (arith, e))
of_range a (suc n) k (inr h) = let r = of_range (a + 1) n k h in (omega (arith, r.0), omega (arith, r.1))

pub to_range : (a n k : ℕ) → a ≤ k → k < a + n → In (range_with_len a n) k
to_range a zero k low high = absurd (omega (arith, low, high))
to_range a (suc n) k low high =
    elim (cases_lt a k) [ inl l ↦ inr (to_range (a + 1) n k (omega (arith, l)) (omega (arith, high))) | inr l ↦ inl (omega (arith, l, low)) ]

pub of_below : (n k : ℕ) → In (below n) k → k < n
of_below n k h = let r = (of_range 0 n k h).1 in omega (arith, r)

pub to_below : (n k : ℕ) → k < n → In (below n) k
to_below n k h = to_range 0 n k (omega arith) (omega (arith, h))

pub of_from_to : (a b k : ℕ) → In (from_to a b) k → (a ≤ k) × (k < b)
of_from_to a b k h = let r = of_range a (b - a) k h in let low = r.0 in let high = r.1 in (low, omega (arith, low, high))

pub to_from_to : (a b k : ℕ) → a ≤ k → k < b → In (from_to a b) k
to_from_to a b k low high = to_range a (b - a) k low (omega (arith, low, high))
