-- The least start that was tried.
use Rattle.std.proofs.Common.{◌≡◌, ℕ, ◌+◌, ◌<◌, Bool, true, false, Option, Some, None, ℤ, ◌≤ℤ◌, inl, inr, ◌⊎◌, refl, sym, subst, arith}
use Rattle.std.specs.Prelude.{IsTrue, int_lt}
use Rattle.std.specs.Int.{int_min}
use Rattle.std.proofs.lemmas.Int.{ints, clamps}
use Rattle.std.proofs.lemmas.Bool.{cases_lt}
use Rattle.vr_model.proofs.tables.Tests.{clash}
use Rattle.vr_model.specs.schedules.Lines.{Line}
use Rattle.vr_model.specs.schedules.Schedules.{IsFeasible}
use Rattle.vr_reach.specs.Shared.{lesser_of}
use Rattle.vr_plan.specs.Narrow.{row_pinned, is_earlier, IsTried, IsLeastTried}

low_of : (a b : ℤ) → int_lt a b ≡ false → b ≤ℤ a
low_of a b h = Prim.grind (arith, ints)

module _ (line : Line) (i : ℕ) (to : ℤ) (firsts : ℕ → ℤ) (stands : ℕ → Bool) (n : ℕ) where
  at_or_before : (p : ℕ) → p < n + 1 → (p < n) ⊎ (p ≡ n)
  at_or_before p lt = elim (cases_lt p n) [ inl before ↦ inl before | inr at ↦ inr (omega (arith, lt, at)) ]

  abbrev Least : ℕ → Option ℤ → Type 0
  Least = IsLeastTried line i to firsts stands

  -- what is no earlier than the best so far is not tried
  pub not_earlier : (best : Option ℤ) → is_earlier (firsts n) best ≡ false → Least n best → Least (n + 1) best
  not_earlier None late before = absurd (clash true refl late)
  not_earlier (Some x) late before = (
    (before.0.0, let lt = before.0.1 in omega (arith, lt), before.0.2),
    before.1,
    before.2,
    λ p lt le may feasible. elim (at_or_before p lt) [
      | inl l ↦ before.3 p l le may feasible
      | inr e ↦ (let same : firsts p ≡ firsts n = λ j. firsts (e j) in let low = low_of (firsts n) x late in omega (arith, ints, same, low))
    ],
  )

  -- nor is a start in a place in which the break may not stand
  pub not_standing : (best : Option ℤ) → stands n ≡ false → Least n best → Least (n + 1) best
  not_standing None off before = λ p lt le may feasible. elim (at_or_before p lt)
      [ inl l ↦ before p l le may feasible | inr e ↦ absurd (clash (stands n) (subst (λ q. IsTrue (stands q)) e may) off) ]
  not_standing (Some x) off before = (
    (before.0.0, let lt = before.0.1 in omega (arith, lt), before.0.2),
    before.1,
    before.2,
    λ p lt le may feasible. elim (at_or_before p lt)
        [ inl l ↦ before.3 p l le may feasible | inr e ↦ absurd (clash (stands n) (subst (λ q. IsTrue (stands q)) e may) off) ],
  )

  pub tried_more : (best new : Option ℤ) → Least n best → IsTried line i to (firsts n) new → Least (n + 1) (lesser_of best new)
  tried_more None None before tried = λ p lt le may feasible. elim (at_or_before p lt) [
    | inl l ↦ before p l le may feasible
    | inr e ↦ tried (subst (λ q. firsts q ≤ℤ to) e le) (subst (λ q. IsFeasible (row_pinned line i (firsts q))) e feasible)
  ]
  tried_more None (Some z) before tried = (
    (n, omega arith, tried.0),
    omega (arith, ints, tried.0, tried.1),
    subst (λ x. IsFeasible (row_pinned line i x)) (sym tried.0) tried.2,
    λ p lt le may feasible. elim (at_or_before p lt)
        [ inl l ↦ absurd (before p l le may feasible) | inr e ↦ (let same : firsts p ≡ firsts n = λ j. firsts (e j) in omega (arith, ints, tried.0, same)) ],
  )
  tried_more (Some x) None before tried = (
    (before.0.0, let lt = before.0.1 in omega (arith, lt), before.0.2),
    before.1,
    before.2,
    λ p lt le may feasible. elim (at_or_before p lt) [
      | inl l ↦ before.3 p l le may feasible
      | inr e ↦ absurd (tried (subst (λ q. firsts q ≤ℤ to) e le) (subst (λ q. IsFeasible (row_pinned line i (firsts q))) e feasible))
    ],
  )
  tried_more (Some x) (Some z) before tried = elim (cases_le x z) [
    | inl le ↦ (let e : x ≡ int_min x z = omega (arith, ints, clamps, le) in subst (λ y. Least (n + 1) (Some y)) e (
      (before.0.0, let lt = before.0.1 in omega (arith, lt), before.0.2),
      before.1,
      before.2,
      λ p lt low may feasible. elim (at_or_before p lt)
          [ inl l ↦ before.3 p l low may feasible | inr at ↦ (let same : firsts p ≡ firsts n = λ j. firsts (at j) in omega (arith, ints, tried.0, same, le)) ],
    ))
    | inr le ↦ (let e : z ≡ int_min x z = omega (arith, ints, clamps, le) in subst (λ y. Least (n + 1) (Some y)) e (
      (n, omega arith, tried.0),
      omega (arith, ints, tried.0, tried.1),
      subst (λ x. IsFeasible (row_pinned line i x)) (sym tried.0) tried.2,
      λ p lt low may feasible. elim (at_or_before p lt) [
        | inl l ↦ (let less = before.3 p l low may feasible in omega (arith, ints, le, less))
        | inr at ↦ (let same : firsts p ≡ firsts n = λ j. firsts (at j) in omega (arith, ints, tried.0, same))
      ],
    ))
  ]
    where
      cases_le : (a b : ℤ) → (a ≤ℤ b) ⊎ (b ≤ℤ a)
      cases_le a b = grind (arith, ints)

-- the same try, named otherwise
pub tried_as : (line : Line) (i : ℕ) (to first to' first' : ℤ) (found : Option ℤ)
    → IsTried line i to first found → to ≡ to' → first ≡ first' → IsTried line i to' first' found
tried_as line i to first to' first' found tried a b = subst (λ t. IsTried line i t first' found) a (subst (λ f. IsTried line i to f found) b tried)
