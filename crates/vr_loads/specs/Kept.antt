-- What is kept of the lists of vehicles in a dimension that is a load.
use Rattle.std.specs.Prelude.{◌≡◌, ℕ, ◌<◌, List, [], length, ℤ, pos, ◌-ℤ◌, slice_index_or}
use Rattle.vr_model.specs.tables.Numbers.{number_at, total_by}
use Rattle.vr_model.specs.tables.Tables.{dimension_at, vehicle_at, evaluator_number}
use Rattle.vr_model.specs.routes.Routes.{route}
use Rattle.vr_model.specs.declared.records.Model.{Model}
use Rattle.vr_loads.specs.Loads.{value_of, taken}
use Rattle.vr_balance.specs.Sums.{AreSums, IsUpTo}
use Rattle.vr_loads.specs.declared.loads.Carried.{Carried}

-- of an arc, what is told of the node that it leads to
abbrev pub at_target : (ℕ → ℤ) → ℕ → ℕ → ℤ
at_target f i j = f j

-- at each place of a list, and at its end, what is taken before it
abbrev pub AreTaken : (ℕ → ℤ) → List ℕ → List ℤ → Type 0
AreTaken f list sums = AreSums (at_target f) 0 list sums

-- a number is what f gives of some nodes, added up, and in the range of sums of 1001 values
pub record IsTotalAlong (f : ℕ → ℤ) (nodes : List ℕ) (total : ℤ) : Type 0 where
  pub value : total ≡ total_by f nodes
  pub range : IsUpTo 1001 total

-- what is kept of no vehicle
abbrev pub nothing_carried : Carried
nothing_carried = record { evaluator = 0; room = pos 0; sums = [] }

-- What is kept of vehicle v with a list: its evaluator, and how much it may take along the list. The sums of what it
-- takes are kept too.
pub record IsCarried (model : Model) (d v : ℕ) (list : List ℕ) (carried : Carried) : Type 0 where
  pub evaluator_is : carried.evaluator ≡ evaluator_number (dimension_at model d) v
  pub room_is : carried.room
      ≡ number_at (dimension_at model d).capacities v -ℤ taken model d v (vehicle_at model v).start
  pub sums_are : AreTaken (value_of model d carried.evaluator) list carried.sums

-- what is kept of each vehicle is of its list
pub record AreCarried (model : Model) (d : ℕ) (lists : List (List ℕ)) (carried : List Carried) : Type 0 where
  pub many : length carried ≡ length lists
  pub each : (v : ℕ) → v < length lists
      → IsCarried model d v (route lists v) (slice_index_or carried v nothing_carried)
