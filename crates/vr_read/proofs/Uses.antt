-- A test of each evaluator that some vehicle uses, and of each vehicle's evaluator.
use Rattle.std.proofs.Common.{◌≡◌, ℕ, ◌<◌, Bool, ◌&&◌, List, length, refl, ap, ◌∙◌, arith}
use Rattle.std.specs.Prelude.{◌==◌, slice_index_or, IsTrue}
use Rattle.std.specs.List.{All, list_any}
use Rattle.std.proofs.lemmas.Bool.{and_from, and_parts, eq-eqb, eqb-true}
use Rattle.std.proofs.lemmas.List.{get_or_default}
use Rattle.std.proofs.lemmas.List.Folds.{list_any_at, Any-from_list_any}
use Rattle.vr_model.specs.tables.Numbers.{below}
use Rattle.vr_model.specs.deciding.Testing.{any_place, range_list_any}
use Rattle.vr_model.proofs.tables.Tests.{same_tests}

module _ (test : ℕ → Bool) (numbers : List ℕ) (n fleet : ℕ) (low : All (λ k. k < n) numbers) (full : length numbers ≡ fleet) where
  pub used_once : list_any (λ k. list_any (λ number. number == k) numbers && test k) (below n) ≡ list_any (λ v. test (slice_index_or numbers v 0)) (below fleet)
  used_once = same_tests _ _ by_vehicle by_number
    where
      by_vehicle : IsTrue (list_any (λ k. list_any (λ number. number == k) numbers && test k) (below n))
          → IsTrue (list_any (λ v. test (slice_index_or numbers v 0)) (below fleet))
      by_vehicle h =
          let found = any_place (λ k. list_any (λ number. number == k) numbers && test k) 0 n h in
          let parts = and_parts _ _ found.3 in
          let place = Any-from_list_any (λ number. number == found.0) numbers parts.0 in
          let same : slice_index_or numbers place.0 0 ≡ found.0 = get_or_default numbers place.0 0 place.1 place.2
          ∙ (place.3 ∙ eqb-true place.1 found.0 place.4) in
          range_list_any (λ v. test (slice_index_or numbers v 0)) 0 fleet place.0 (omega arith) (omega (arith, full, place.2)) (ap test same ∙ parts.1)

      by_number : IsTrue (list_any (λ v. test (slice_index_or numbers v 0)) (below fleet))
          → IsTrue (list_any (λ k. list_any (λ number. number == k) numbers && test k) (below n))
      by_number h =
          let found = any_place (λ v. test (slice_index_or numbers v 0)) 0 fleet h in
          let v = found.0 in
          let k = slice_index_or numbers v 0 in
          let within : v < length numbers = omega (arith, full, found.2) in
          range_list_any (λ k. list_any (λ number. number == k) numbers && test k) 0 n k (omega arith) (omega (arith, low v 0 within))
          (and_from _ _ (list_any_at (λ number. number == k) numbers v 0 within (eq-eqb k k refl)) found.3)
