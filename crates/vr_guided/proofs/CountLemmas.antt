-- Counts of penalties.
use Rattle.std.proofs.Common.{◌≡◌, ◌≢◌, ◌∙◌, ◌<◌, ◌≤◌, ℕ, zero, suc, ◌+◌, ◌*◌, ◌/◌, ◌%◌, Bool, true, false, cond, List, [], ◌∷◌, length, refl, sym, ap, ap₂}
use Rattle.std.proofs.Common.{subst, nat_lt, arith}
use Rattle.std.proofs.Math.Numerals.{add-one}
use Rattle.std.specs.Prelude.{◌&&◌, ◌==◌, slice_index_or, slice_set}
use Rattle.std.proofs.lemmas.Bool.{eqb-true, eq-eqb, lt-ltb, ltb-true}
use Rattle.std.proofs.lemmas.List.{get_or-set_other}
use Rattle.std.proofs.lemmas.Grind.{get_or-set_at}
use Rattle.std.proofs.lemmas.Nat.{div-mul-add, mod-mul-add, mul-add-lt}
use Rattle.std.proofs.Math.ListN.{replicate}
use Rattle.vr_model.specs.search.GuidedSearches.{Penalties, no_penalties}
use Rattle.vr_descent.proofs.EndLemmas.{both}
use Rattle.vr_model.specs.routes.Routes.{UsedArc}
use Rattle.vr_guided.specs.Counts.{counted, AtMost}
use Rattle.vr_guided.specs.Worths.{increased}

zeros : (n k : ℕ) → slice_index_or (replicate n zero) k zero ≡ zero
zeros zero k = refl
zeros (suc n) zero = refl
zeros (suc n) (suc k) = zeros n k

-- no pair is penalised at first
pub fresh : (n : ℕ) (xs : List ℕ) → xs ≡ replicate (n * n) zero → counted (record { nodes = n; counts = xs }) ≡ no_penalties
fresh n xs e = ap (λ ys. counted (record { nodes = n; counts = ys })) e ∙ same
  where
    here : (origin target : ℕ) (b : Bool) → cond b (slice_index_or (replicate (n * n) zero) (origin * n + target) zero) zero ≡ zero
    here origin target true = zeros (n * n) (origin * n + target)
    here origin target false = refl

    same : counted (record { nodes = n; counts = replicate (n * n) 0 }) ≡ no_penalties
    same = λ i origin target. here origin target (nat_lt origin n && nat_lt target n) i

-- ---- one more on a pair

pub same_pair : (o t a b : ℕ) → ((o == a) && (t == b)) ≡ true → (o ≡ a) × (t ≡ b)
same_pair o t a b e = let p = both (o == a) (t == b) e in (eqb-true o a p.0, eqb-true t b p.1)

pub pair_same : (o t a b : ℕ) → o ≡ a → t ≡ b → ((o == a) && (t == b)) ≡ true
pair_same o t a b p q = ap₂ (λ x y. x && y) (eq-eqb o a p) (eq-eqb t b q)

no : {A : Type 0} → false ≡ true → A
no e = absurd (never e)
  where
    never : false ≡ true → ⊥
    never e = Prim.cc

-- a pair of nodes has a count
pub counted_at : (n : ℕ) (xs : List ℕ) (o t : ℕ) → o < n → t < n → counted (record { nodes = n; counts = xs }) o t ≡ slice_index_or xs (o * n + t) zero
counted_at n xs o t p q = ap (λ b. cond b (slice_index_or xs (o * n + t) zero) zero) (ap₂ (λ x y. x && y) (lt-ltb o n p) (lt-ltb t n q))

module _ (n : ℕ) (xs : List ℕ) (o t v : ℕ) (o_in : o < n) (t_in : t < n) (square : length xs ≡ n * n) where
  cell_in : o * n + t < length xs
  cell_in = subst (λ k. o * n + t < k) (sym square) (mul-add-lt o n t n o_in t_in)

  -- two pairs of nodes have two places
  apart : (a b : ℕ) → b < n → ((o == a) && (t == b)) ≡ false → a * n + b ≢ o * n + t
  apart a b b_in f e =
      let rows : o ≡ a = sym (div-mul-add o n t t_in) ∙ (ap (λ k. k / n) (sym e) ∙ div-mul-add a n b b_in) in
      let columns : t ≡ b = sym (mod-mul-add o n t t_in) ∙ (ap (λ k. k % n) (sym e) ∙ mod-mul-add a n b b_in) in
      no (sym f ∙ pair_same o t a b rows columns)

  at_pair : (a b : ℕ) (r l : Bool) → (nat_lt a n && nat_lt b n) ≡ r → ((o == a) && (t == b)) ≡ l
      → cond r (slice_index_or (slice_set xs (o * n + t) (slice_index_or xs (o * n + t) zero + 1)) (a * n + b) zero) zero
      ≡ cond l (suc (cond r (slice_index_or xs (a * n + b) zero) zero)) (cond r (slice_index_or xs (a * n + b) zero) zero)
  at_pair a b true true e f =
      let p = same_pair o t a b f in
      let here : a * n + b ≡ o * n + t = ap₂ (λ x y. x * n + y) (sym p.0) (sym p.1) in
      get_or-set_at xs (o * n + t) (a * n + b) (slice_index_or xs (o * n + t) zero + 1) zero here cell_in
      ∙ (add-one (slice_index_or xs (o * n + t) zero) ∙ ap (λ k. suc (slice_index_or xs k zero)) (sym here))
  at_pair a b true false e f =
      let b_in : b < n = ltb-true b n (both (nat_lt a n) (nat_lt b n) e).1 in
      get_or-set_other xs (o * n + t) (a * n + b) (slice_index_or xs (o * n + t) zero + 1) zero (apart a b b_in f)
  at_pair a b false true e f = let p = same_pair o t a b f in
      no (sym e ∙ ap₂ (λ x y. x && y) (lt-ltb a n (subst (λ k. k < n) p.0 o_in)) (lt-ltb b n (subst (λ k. k < n) p.1 t_in)))
  at_pair a b false false e f = refl

  pub increased_there : counted (record { nodes = n; counts = slice_set xs (o * n + t) (slice_index_or xs (o * n + t) zero + 1) })
      ≡ increased (counted (record { nodes = n; counts = xs })) (record { vehicle = v; origin = o; target = t })
  increased_there = λ i a b. at_pair a b (nat_lt a n && nat_lt b n) ((o == a) && (t == b)) refl refl i

-- one more on a pair makes no pair more than one more
pub increased_most : (p : Penalties) (arc : UsedArc) (most : ℕ) → AtMost most p → AtMost (most + 1) (increased p arc)
increased_most p arc most few = record { each = λ a b. go ((arc.origin == a) && (arc.target == b)) (p a b) (few.each a b) }
  where
    go : (l : Bool) (k : ℕ) → k ≤ most → cond l (suc k) k ≤ most + 1
    go true k low = omega (arith, low)
    go false k low = omega (arith, low)

-- within a list the default does not count
pub default_within : (xs : List ℕ) (k d e : ℕ) → k < length xs → slice_index_or xs k d ≡ slice_index_or xs k e
default_within [] k d e low = absurd (never low)
  where
    never : k < 0 → ⊥
    never h = omega (arith, h)
default_within (x ∷ xs) zero d e low = refl
default_within (x ∷ xs) (suc k) d e low = default_within xs k d e (omega (arith, low))
