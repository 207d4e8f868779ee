-- The greatest cumul that levels share.
use Rattle.std.proofs.Common.{◌≡◌, ◌∙◌, ℕ, ◌+◌, true, false, ◌&&◌, List, [], Option, ℤ, ◌≤ℤ◌, inl, inr, ◌⊎◌, sym, subst, arith}
use Rattle.std.specs.Prelude.{IsTrue, IsNone, IfSome, ◌↔◌, Result, Ok, Err, is_err, OnOk}
use Rattle.std.specs.Int.{int_max}
use Rattle.std.proofs.lemmas.Int.{ints, clamps}
use Rattle.std.proofs.lemmas.Bool.{and_parts, and_from}
use Rattle.std.proofs.lemmas.Option.{IfSome_then}
use Rattle.vr_spans.specs.declared.runs.Run.{Run}
use Rattle.vr_spans.specs.Runs.{has, IsGreatest}
use Rattle.vr_steps.specs.Levels.{level_at}
use Rattle.vr_reach.specs.Shared.{SharedAt, IsGreatestShared, IsGreatestBelow, greater_of}
use Rattle.vr_reach.proofs.SharedLemmas.{first_more}

-- what a call promises, where it did not fail
pub from-ok : {A E : Type 0} (r : Result A E) (P : Type 0) → is_err r ≡ false → OnOk r P → P
from-ok (Ok a) P e h = h
from-ok (Err x) P e h = absurd (let f : true ≡ false → ⊥ = λ e. cc in f e)

greater_one : (x z : ℤ) → (x ≡ int_max x z) ⊎ (z ≡ int_max x z)
greater_one x z = elim (cases_le z x) [ inl le ↦ inl (omega (arith, ints, clamps, le)) | inr le ↦ inr (omega (arith, ints, clamps, le)) ]
  where
    cases_le : (a b : ℤ) → (a ≤ℤ b) ⊎ (b ≤ℤ a)
    cases_le a b = grind (arith, ints)

-- the numbers that both sets have
module _ (left right : List (List Run)) (n : ℕ) (both : List Run) (exact : (x : ℤ) → has both x ≡ (has (level_at left n) x && has (level_at right n) x)) where
  of-both : (x : ℤ) → IsTrue (has both x) → IsTrue (has (level_at left n) x) × IsTrue (has (level_at right n) x)
  of-both x t = let p = and_parts (has (level_at left n) x) (has (level_at right n) x) (sym (exact x) ∙ t) in (p.0, p.1)

  to-both : (x : ℤ) → IsTrue (has (level_at left n) x) → IsTrue (has (level_at right n) x) → IsTrue (has both x)
  to-both x a b = exact x ∙ and_from (has (level_at left n) x) (has (level_at right n) x) a b

  none-both : both ≡ [] → (x : ℤ) → IsTrue (has (level_at left n) x) → IsTrue (has (level_at right n) x) → ⊥
  none-both e x a b = let t = subst (λ l. IsTrue (has l x)) e (to-both x a b) in let f : false ≡ true → ⊥ = λ e. cc in f t

  pub greatest_more : (best new : Option ℤ) → IsGreatestBelow left right n best → (IsNone new ↔ (both ≡ []))
      → IfSome new (λ x. IsGreatest both x) → IsGreatestBelow left right (n + 1) (greater_of best new)
  greatest_more best new before none some =
      first_more left right n (λ x y. y ≤ℤ x) int_max greater_one (λ x z y le. omega (arith, ints, clamps, le))
      (λ x z y le. omega (arith, ints, clamps, le)) best new before
      (λ is. none-both (none.0 is))
      (IfSome_then new some (λ x is. let p = of-both x is.among in (p.0, p.1, λ y here there. is.greatest y (to-both y here there))))

pub greatest_some : (left right : List (List Run)) (best : Option ℤ)
    → IfSome best (λ x. SharedAt left right x × ((y : ℤ) → SharedAt left right y → y ≤ℤ x)) → IfSome best (IsGreatestShared left right)
greatest_some left right best found = IfSome_then best found (λ x is. record { shared = is.0; greatest = is.1 })
