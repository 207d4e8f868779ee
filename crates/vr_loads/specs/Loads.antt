-- Dimensions that are loads: what a vehicle carries grows by what it takes at each node, and nothing else is asked.
use Rattle.std.specs.Prelude.{◌≡◌, ℕ, ◌<◌, Bool, true, false, ◌&&◌, ◌||◌, ◌==◌, IsTrue, List, length, ℤ, pos, ◌+ℤ◌}
use Rattle.std.specs.Prelude.{int_le, Option, Some, None}
use Rattle.std.specs.List.{list_all}
use Rattle.vr_model.specs.tables.Numbers.{number_at, total_by, is_same_number}
use Rattle.vr_model.specs.tables.Tables.{dimension_at, vehicle_at, evaluator_number}
use Rattle.vr_model.specs.tables.ModelRules.{evaluator_at}
use Rattle.vr_model.specs.tables.WellFormed.{IsWellFormed}
use Rattle.vr_model.specs.routes.Routes.{is_empty}
use Rattle.vr_model.specs.schedules.Lines.{line}
use Rattle.vr_model.specs.schedules.Choices.{is_feasible}
use Rattle.vr_model.specs.declared.records.Model.{Model}
use Rattle.vr_model.specs.declared.records.Dimension.{Dimension}
use Rattle.vr_model.specs.declared.records.Evaluator.{Evaluator}

-- there is no matrix
abbrev pub has_no_matrix : Option ℕ → Bool
has_no_matrix None = true
has_no_matrix (Some m) = false

-- an evaluator has no matrix, and no value of it is negative
abbrev pub only_adds : Evaluator → Bool
only_adds evaluator = has_no_matrix evaluator.matrix && list_all (int_le (pos 0)) evaluator.values

-- a dimension has no rows of visits, starts or ends, and no breaks
abbrev pub has_no_rows : Dimension → Bool
has_no_rows dimension = (length dimension.nodes == 0)
    && ((length dimension.starts == 0) && ((length dimension.ends == 0) && (length dimension.breaks == 0)))

-- a dimension has no slack and no rows, and each of its evaluators only adds
abbrev pub is_load_dimension : Dimension → Bool
is_load_dimension dimension = is_same_number dimension.slack_max (pos 0)
    && (has_no_rows dimension && list_all only_adds dimension.evaluators)

-- dimension d is a load
abbrev pub is_load : Model → ℕ → Bool
is_load model d = is_load_dimension (dimension_at model d)

-- a well-formed model and a dimension of it that is a load
pub record HasLoad (model : Model) (d : ℕ) : Type 0 where
  pub well_formed : IsWellFormed model
  pub dimension : d < length model.dimensions
  pub load : IsTrue (is_load model d)

-- what evaluator e of dimension d gives for a node
abbrev pub value_of : Model → ℕ → ℕ → ℕ → ℤ
value_of model d e node = number_at (evaluator_at (dimension_at model d) e).values node

-- what vehicle v takes at a node
abbrev pub taken : Model → ℕ → ℕ → ℕ → ℤ
taken model d v node = value_of model d (evaluator_number (dimension_at model d) v) node

-- What vehicle v carries at its end with a list, if it has nothing before its start. That is what it takes at the start
-- and at each visit.
abbrev pub load_of : Model → ℕ → ℕ → List ℕ → ℤ
load_of model d v list = taken model d v (vehicle_at model v).start +ℤ total_by (taken model d v) list

-- the list is empty, or what vehicle v carries at its end is at most its capacity
abbrev pub can_carry : Model → ℕ → ℕ → List ℕ → Bool
can_carry model d v list =
    is_empty list || int_le (load_of model d v list) (number_at (dimension_at model d).capacities v)

-- in a load, a vehicle can drive a list exactly if it can carry what it takes
abbrev pub LoadsDecide : Type 0
LoadsDecide = (model : Model) (d v : ℕ) → HasLoad model d → v < length model.vehicles → (list : List ℕ)
    → (is_empty list || is_feasible (line model d v list)) ≡ can_carry model d v list
