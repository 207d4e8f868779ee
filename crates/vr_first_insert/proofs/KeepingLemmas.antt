-- Lists that are taken over one by one.
use Rattle.std.proofs.Common.{◌≡◌, ◌∙◌, ◌<◌, ◌≤◌, ◌+◌, ℕ, List, [], ap, sym, arith, length, inl, inr}
use Rattle.std.proofs.lemmas.Bool.{cases_lt}
use Rattle.std.proofs.lemmas.List.{ext_get_or}
use Rattle.vr_model.specs.routes.Routes.{route}
use Rattle.vr_model.specs.moves.Moves.{with_route}
use Rattle.vr_model.proofs.routes.Lists.{route_set_same, route_set_other}

-- one list more is taken over
pub taken-more : (lists others : List (List ℕ)) (v : ℕ) (list : List ℕ) → v < length lists
    → list ≡ route others v → ((w : ℕ) → w < v → route lists w ≡ route others w)
    → (w : ℕ) → w < v + 1 → route (with_route lists v list) w ≡ route others w
taken-more lists others v list there same before w low = elim (cases_lt w v) [
  | inl earlier ↦ route_set_other lists v w list (λ e. omega (arith, earlier, e)) ∙ before w earlier
  | inr at ↦ (let e : w ≡ v = omega (arith, low, at) in
      ap (route (with_route lists v list)) e ∙ route_set_same lists v list there ∙ same ∙ ap (route others) (sym e))
]

-- all lists are taken over
pub all-taken : (lists others : List (List ℕ)) (n : ℕ) → length lists ≡ length others
    → length others ≤ n → ((w : ℕ) → w < n → route lists w ≡ route others w) → lists ≡ others
all-taken lists others n many end each = ext_get_or [] lists others many (λ w low. each w (omega (arith, low, many, end)))
