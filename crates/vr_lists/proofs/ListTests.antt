-- A test of all entries of a list, entry by entry.
use Rattle.std.proofs.Common.{◌≡◌, ◌∙◌, ◌<◌, ◌≤◌, ◌+◌, ℕ, List, Bool, true, false, ap, ap₂, sym, length, take, get_or}
use Rattle.std.specs.Prelude.{◌&&◌}
use Rattle.std.specs.List.{list_all}
use Rattle.std.proofs.lemmas.List.{take_all}
use Rattle.std.proofs.lemmas.List.Folds.{list_all_more}
use Rattle.vr_model.proofs.tables.Tests.{clash, fails}
use Rattle.vr_model.proofs.tables.Tests.{all-from_list_all}

module _ {A : Type 0} (p : A → Bool) (xs : List A) (k : ℕ) where
  -- one more entry passes
  pub all_more : (x : A) → k < length xs → get_or xs k x ≡ x → list_all p (take k xs) ≡ true → p x ≡ true → list_all p (take (k + 1) xs) ≡ true
  all_more x low is so_far passes = list_all_more p xs k x low ∙ ap₂ (λ a b. a && b) so_far (ap p is ∙ passes)

  -- an entry fails
  pub all_stops : (x : A) → k < length xs → get_or xs k x ≡ x → p x ≡ false → list_all p xs ≡ false
  all_stops x low is failed = fails (list_all p xs) (λ all. clash (p x) (sym (ap p is) ∙ all-from_list_all p xs all k x low) failed)

  -- each entry passed
  pub all_ends : length xs ≤ k → list_all p (take k xs) ≡ true → list_all p xs ≡ true
  all_ends high so_far = sym (ap (list_all p) (take_all k xs high)) ∙ so_far
