-- How far walks without a break go for a change.
use Rattle.std.specs.Prelude.{ℕ, List, sum_by}
use Rattle.vr_model.specs.routes.Routes.{route, vehicles}
use Rattle.vr_model.specs.declared.records.Model.{Model}
use Rattle.vr_reach.specs.Tries.{list_tries}

-- how far they go for the lists after a change in dimension d
abbrev pub tries_in : Model → ℕ → List (List ℕ) → List (List ℕ) → ℕ
tries_in model d lists after = sum_by (λ v. list_tries model d v (route lists v) (route after v)) (vehicles after)
