-- What it says that a rule finds nothing.
use Rattle.std.proofs.Common.{◌≡◌, ℕ, zero, suc, ◌+◌, ◌<◌, ◌≤◌, Bool, true, false, not, List, [], ◌∷◌, length, Option, Some, None, refl, subst, inl, inr, arith}
use Rattle.std.specs.Prelude.{slice_index_or, ℤ, if◌then◌else◌}
use Rattle.std.specs.List.{list_all, range_with_len}
use Rattle.std.proofs.lemmas.Bool.{cases_lt}
use Rattle.vr_model.specs.tables.Numbers.{below}
use Rattle.vr_model.specs.deciding.Testing.{and_both}
use Rattle.vr_check.specs.Findings.{where_wrong, earlier, first_finding, unless_broken}
use Rattle.vr_check.specs.declared.finding.Finding.{Finding}
use Rattle.vr_check.specs.declared.finding.Finding.TheVariants.{Meets}
use Rattle.vr_check.specs.declared.finding.Rule.{Rule}
use Rattle.vr_check.specs.declared.finding.Spot.{Spot}

-- where the finding is that all is met, a rule finds nothing, and the rules behind it find that all is met
pub through : (rule : Rule) (s : Option Spot) (rest : Finding) (cost : ℤ) → unless_broken rule s rest ≡ Meets cost → (s ≡ None) × (rest ≡ Meets cost)
through rule None rest cost h = (refl, h)
through rule (Some s) rest cost h = absurd (cc)

first_is : {B : Type 0} (o r : Option B) → earlier o r ≡ None → o ≡ None
first_is None r h = refl
first_is (Some x) r h = absurd (cc)

rest_is : {B : Type 0} (o r : Option B) → earlier o r ≡ None → r ≡ None
rest_is None r h = h
rest_is (Some x) r h = absurd (cc)

in_range : {B : Type 0} (f : ℕ → Option B) (a n : ℕ) → first_finding f (range_with_len a n) ≡ None → (k : ℕ) → a ≤ k → k < a + n → f k ≡ None
in_range f a zero h k low high = absurd (omega arith)
in_range f a (suc n) h k low high = elim (cases_lt a k) [
  | inl later ↦ in_range f (a + 1) n (rest_is (f a) _ h) k (omega arith) (omega arith)
  | inr first ↦ (let e : a ≡ k = omega arith in subst (λ i. f i ≡ None) e (first_is (f a) _ h))
]

pub at_none : {B : Type 0} (f : ℕ → Option B) (n : ℕ) → first_finding f (below n) ≡ None → (k : ℕ) → k < n → f k ≡ None
at_none f n h k low = in_range f 0 n h k (omega arith) (omega arith)

pub is_right : (b : Bool) (s : Spot) → where_wrong (not b) s ≡ None → b ≡ true
is_right true s h = refl
is_right false s h = absurd (cc)

pub is_not_wrong : (b : Bool) (s : Spot) → where_wrong b s ≡ None → b ≡ false
is_not_wrong true s h = absurd (cc)
is_not_wrong false s h = refl

pub both_none : {B : Type 0} (o r : Option B) → earlier o r ≡ None → (o ≡ None) × (r ≡ None)
both_none o r h = (first_is o r h, rest_is o r h)

-- what a choice is whose first test fails and whose second one passes
pub second_case : (a b x y z : Bool) → (if a then x else (if b then y else z)) ≡ true → a ≡ false → b ≡ true → y ≡ true
second_case true b x y z h e f = absurd (cc)
second_case false true x y z h e f = h
second_case false false x y z h e f = absurd (cc)

-- what is left of a choice whose two first tests fail
pub third_case : (a b x y z : Bool) → (if a then x else (if b then y else z)) ≡ true → a ≡ false → b ≡ false → z ≡ true
third_case true b x y z h e f = absurd (cc)
third_case false true x y z h e f = absurd (cc)
third_case false false x y z h e f = h

-- a test that passes at each place of a list
pub all_at : {A : Type 0} (p : A → Bool) (d : A) (xs : List A) → ((k : ℕ) → k < length xs → p (slice_index_or xs k d) ≡ true) → list_all p xs ≡ true
all_at p d [] h = refl
all_at p d (x ∷ xs) h = and_both (p x) (list_all p xs) (h 0 (omega arith)) (all_at p d xs (λ k low. h (suc k) (omega (arith, low))))
