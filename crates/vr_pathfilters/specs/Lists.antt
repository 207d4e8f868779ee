-- Rules of single lists.
use Rattle.std.specs.Prelude.{ℕ, Bool, List}
use Rattle.std.specs.List.{list_all}
use Rattle.vr_model.specs.routes.Routes.{route, vehicles}

-- a rule holds of the list of each vehicle
abbrev pub holds_of_each : (ℕ → List ℕ → Bool) → List (List ℕ) → Bool
holds_of_each rule lists = list_all (λ v. rule v (route lists v)) (vehicles lists)
