-- Places that are kept of the visits of a list.
use Rattle.std.proofs.Common.{◌≡◌, ◌∙◌, ℕ, ◌+◌, ◌<◌, ◌≤◌, Bool, true, false, List, length, Some, None, refl, sym, ap, subst, arith, inl, inr}
use Rattle.std.specs.Prelude.{◌==◌, ◌&&◌, nat_lt, slice_index, slice_set}
use Rattle.std.proofs.lemmas.Bool.{cases_lt}
use Rattle.std.proofs.lemmas.List.{get_or-set_other, get_or-set_same}
use Rattle.vr_model.specs.deciding.Testing.{and_both, and_right, eq_of_test, test_of_eq}
use Rattle.vr_model.specs.routes.Routes.{holds}
use Rattle.vr_model.proofs.routes.Lists.{place_of_held}
use Rattle.vr_model.proofs.tables.Tests.{clash, fails, test_of_lt}
use Rattle.vr_tabu.specs.Changed.{node_just_before}
use Rattle.vr_tabu.specs.Parts.{ArePlaced, IsPlaced}
use Rattle.vr_tabu.proofs.BeforeLemmas.{before_none}

-- one place more is kept
pub placed_more : (list places : List ℕ) (k x : ℕ) → k < length list → slice_index list k ≡ x → x < length places
    → ((j : ℕ) → j < k → IsPlaced list places (slice_index list j)) → (j : ℕ) → j < k + 1 → IsPlaced list (slice_set places x k) (slice_index list j)
placed_more list places k x low at within placed j here = by (x == y) refl
  where
    y : ℕ
    y = slice_index list j

    by : (b : Bool) → (x == y) ≡ b → IsPlaced list (slice_set places x k) y
    by true e =
        let same : x ≡ y = eq_of_test x y e in
        let is : slice_index (slice_set places x k) y ≡ k = subst (λ z. slice_index (slice_set places x k) z ≡ k) same (get_or-set_same places x k 0 within) in
        record { place = omega (arith, is, low); stands = ap (λ i. slice_index list i) is ∙ (at ∙ same) }
    by false e =
        let is : slice_index (slice_set places x k) y ≡ slice_index places y = get_or-set_other places
        x y k 0 (λ same. clash (x == y) (test_of_eq x y (sym same)) e) in
        let before = placed j earlier in
        let there = before.place in
        record { place = omega (arith, is, there); stands = ap (λ i. slice_index list i) is ∙ before.stands }
      where
        earlier : j < k
        earlier = elim (cases_lt j k) [
          | inl before ↦ before
          | inr past ↦ absurd (let last : k ≡ j = omega (arith, here, past) in clash (x == y) (test_of_eq x y (sym at ∙ ap (slice_index list) last)) e)
        ]

-- all are kept
pub all_placed : (list places : List ℕ) (n : ℕ) → length list ≤ n → ((j : ℕ) → j < n → IsPlaced list places (slice_index list j)) → ArePlaced list places
all_placed list places n high placed x held =
    let p = place_of_held list x held in
    let low = p.1 in
    subst (λ z. IsPlaced list places z) p.2 (placed p.0 (omega (arith, low, high)))

-- a visit that stands at the place that is kept of it
pub at_kept : (origin : ℕ) (list : List ℕ) (visit place : ℕ) (answer : ℕ) → (nat_lt place (length list) && (slice_index list place == visit)) ≡ true
    → Some answer ≡ node_just_before origin list (slice_index list place) → Some answer ≡ node_just_before origin list visit
at_kept origin list visit place answer h e = subst (λ x. Some answer ≡ node_just_before origin list x)
    (eq_of_test (slice_index list place) visit (and_right (nat_lt place (length list)) (slice_index list place == visit) h)) e

-- a visit that does not stand at the place that is kept of it stands nowhere
pub not_kept : (origin : ℕ) (list places : List ℕ) (visit : ℕ) → ArePlaced list places
    → (nat_lt (slice_index places visit) (length list) && (slice_index list (slice_index places visit) == visit)) ≡ false
    → None ≡ node_just_before origin list visit
not_kept origin list places visit placed h = sym (before_none origin list visit (fails (holds list visit) λ held.
    let at = placed visit held in
    clash (nat_lt (slice_index places visit) (length list) && (slice_index list (slice_index places visit) == visit))
    (and_both (nat_lt (slice_index places visit) (length list)) (slice_index list (slice_index places visit) == visit)
    (test_of_lt (slice_index places visit) (length list) at.place) (test_of_eq (slice_index list (slice_index places visit)) visit at.stands)) h))
