-- The fixed costs of vehicles.
use Rattle.std.specs.Prelude.{◌≡◌, Bool, not, IsTrue, ℕ, cond, List, ℤ, pos}
use Rattle.std.specs.List.{list_any}
use Rattle.vr_model.specs.tables.Numbers.{is_same_number}
use Rattle.vr_model.specs.tables.Tables.{vehicle_at, visits}
use Rattle.vr_model.specs.routes.Rules.{is_valid}
use Rattle.vr_model.specs.routes.Routes.{is_empty}
use Rattle.vr_model.specs.tables.WellFormed.{IsWellFormed}
use Rattle.vr_model.specs.declared.records.Model.{Model}
use Rattle.vr_model.specs.declared.records.Vehicle.{Vehicle}
use Rattle.vr_routes.specs.Tours.{Tours}

-- the fixed cost of vehicle v with this list
abbrev pub fixed_with : Model → ℕ → List ℕ → ℤ
fixed_with model v list = cond (is_empty list) (pos 0) (vehicle_at model v).fixed

-- a vehicle has a fixed cost that is not 0
abbrev pub has_fixed_cost : Vehicle → Bool
has_fixed_cost vehicle = not (is_same_number vehicle.fixed (pos 0))

-- some vehicle has a fixed cost that is not 0
abbrev pub is_some_fixed : Model → Bool
is_some_fixed model = list_any has_fixed_cost model.vehicles

-- what contracts see of the fixed costs
pub record KeptFixed : Type 0 where
  pub model : Model
  pub pays : Bool

-- these are valid lists of the model, and it is said whether some vehicle has a fixed cost other than 0
pub record StandsFixed (kept : KeptFixed) (tours : Tours) : Type 0 where
  pub well_formed : IsWellFormed kept.model
  pub of_model : tours.visits ≡ visits kept.model
  pub valid : IsTrue (is_valid kept.model tours.lists)
  pub pays_is : kept.pays ≡ is_some_fixed kept.model
