-- The parts of a model, as its table gives them: what the rules on the whole model may take for granted.
use Rattle.std.proofs.Common.{ℕ, ◌<◌, ◌≤◌, length, arith}
use Rattle.std.proofs.Props.{props}
use Rattle.std.specs.List.{All}
use Rattle.vr_model.specs.tables.WellFormed.{HasLength, IsMatrix, IsVehicle, IsDimension}
use Rattle.vr_model.specs.tables.WellFormedOnce.{WherePresent-prop, one_of-prop}
use Rattle.vr_model.specs.tables.Tables.{no_vehicle}
use Rattle.vr_model.specs.declared.records.Model.{Model}
use Rattle.vr_model.specs.declared.records.Dimension.{Dimension}

-- there are 1 to 100 vehicles, and each matrix, vehicle and dimension is as in a well-formed model
pub record HasModelParts (model : Model) : Type 0 where
  pub number_of_vehicles : HasLength 1 100 model.vehicles
  pub each_matrix : All (IsMatrix model.nodes) model.matrices
  pub each_vehicle : All (IsVehicle model) model.vehicles
  pub each_dimension : All (IsDimension model) model.dimensions

-- in one way at most, so that a struct may keep it
pub HasModelParts-prop : (model : Model) → IsProp (HasModelParts model)
HasModelParts-prop model x y = once some x y
  where
    some : 1 ≤ model.nodes
    some =
        let vehicle = x.each_vehicle 0 no_vehicle (Prim.omega (arith, x.number_of_vehicles.at_least)) in
        Prim.omega (arith, vehicle.start_in_range)

    once : 1 ≤ model.nodes → IsProp (HasModelParts model)
    once some = Prim.hlevel (props, WherePresent-prop, one_of-prop)

-- the lists by vehicle of a dimension reach to vehicle v
pub record HasVehicle (v : ℕ) (dimension : Dimension) : Type 0 where
  pub capacity : v < length dimension.capacities
  pub evaluator : v < length dimension.vehicle_evaluators
  pub span_cost : v < length dimension.span_costs
