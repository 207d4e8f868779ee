-- What is looked up of a vehicle once for many arcs.
use Rattle.std.specs.Prelude.{◌≡◌, ◌<◌, ℕ, ℤ, IsTrue, List, length, pos}
use Rattle.vr_lists.specs.Places.{ArePlaces}
use Rattle.vr_model.specs.tables.Numbers.{horizon}
use Rattle.vr_model.specs.tables.Tables.{dimension_at, evaluator_of, vehicle_at}
use Rattle.vr_model.specs.tables.WellFormed.{IsIn, IsWellFormed}
use Rattle.vr_model.specs.declared.records.Evaluator.{Evaluator}
use Rattle.vr_model.specs.declared.records.Model.{Model}
use Rattle.vr_plan.specs.Paying.{CostsNoSoft}
use Rattle.vr_plan.specs.Tables.{keys_of}
use Rattle.vr_plan.specs.declared.tables.Table.{Table}
use Rattle.vr_reach.specs.VisitRuns.{AreVisitRuns, HasCumulEnds}
use Rattle.vr_reach.specs.declared.single.Ahead.{Ahead}
use Rattle.vr_spans.specs.declared.runs.Run.{Run}

-- a node of a model allows a run of cumuls
pub record IsStopAt (model : Model) (node : ℕ) (allowed : Run) : Type 0 where
  pub known : node < model.nodes
  pub ends : HasCumulEnds allowed

-- this is what is looked up of vehicle v in dimension d of a well formed model. Of the dimension it is the places of
-- the rows of visits, and the greatest slack. If the table says that the dimension is hard, soft upper bounds cost
-- nothing. Of the vehicle it is the evaluator, the runs of visits, a run of cumuls for its start, and its end with one.
pub record IsRunGuide (model : Model) (d v : ℕ) (table : Table) (evaluator : Evaluator) (slack : ℤ) (first : Run)
    (each : List Run) (ahead : Ahead) : Type 0 where
  pub well_formed : IsWellFormed model
  pub dimension : d < length model.dimensions
  pub vehicle : v < length model.vehicles
  pub places : ArePlaces model.nodes (keys_of (dimension_at model d).nodes) table.row_places.items
  pub hard : IsTrue table.is_hard → CostsNoSoft (dimension_at model d)
  pub evaluator_is : evaluator ≡ evaluator_of (dimension_at model d) v
  pub slack_is : slack ≡ (dimension_at model d).slack_max
  pub slack_range : IsIn (pos 0) horizon slack
  pub start : HasCumulEnds first
  pub visits : AreVisitRuns model d v each
  pub finish : HasCumulEnds ahead.allowed
  pub end_is : ahead.node ≡ (vehicle_at model v).end
