-- What a vehicle reaches at the end of a list that grows.
use Rattle.std.specs.Prelude.{◌≡◌, ℕ, ◌<◌, ◌≤◌, false, IsTrue, List, ◌++◌, length, cond, slice_index_or, All}
use Rattle.std.specs.List.{list_all}
use Rattle.vr_spans.specs.declared.runs.Run.{Run}
use Rattle.vr_model.specs.tables.Tables.{breaks_of, dimension_at, is_visit, vehicle_at}
use Rattle.vr_model.specs.tables.WellFormed.{IsBreak}
use Rattle.vr_model.specs.routes.Routes.{is_distinct, is_empty}
use Rattle.vr_model.specs.schedules.Lines.{line}
use Rattle.vr_model.specs.first.Items.{last_node}
use Rattle.vr_model.specs.declared.records.Model.{Model}
use Rattle.vr_steps.specs.declared.stops.StopName.{StopName}
use Rattle.vr_steps.specs.declared.stops.StopName.TheVariants.{End, Visit}
use Rattle.vr_steps.specs.Levels.{AreLevels, HasNumbers, IsCumuls}
use Rattle.vr_steps.specs.Reached.{AreReached}
use Rattle.vr_steps.specs.Stops.{allowed_by}
use Rattle.vr_rules.specs.declared.fronts.Front.{Front}
use Rattle.vr_rules.specs.declared.fronts.Fronts.{Fronts}

-- the node at which the next arc begins: the last visit of the list, or the start of vehicle v if it is empty
abbrev pub tail : Model → ℕ → List ℕ → ℕ
tail model v list = cond (is_empty list) (vehicle_at model v).start (last_node list)

-- a list that a vehicle may be given: distinct visits, one at least
pub record IsDriven (model : Model) (list : List ℕ) : Type 0 where
  pub some : is_empty list ≡ false
  pub visits : IsTrue (list_all (is_visit model) list)
  pub distinct : IsTrue (is_distinct list)

-- the set has what a stop of vehicle v allows in dimension d
pub record IsStopSet (model : Model) (d v : ℕ) (stop : StopName) (set : List Run) : Type 0 where
  pub exact : HasNumbers (allowed_by model d v stop) set
  pub cumuls : IsCumuls set

-- for each node that is a visit, what it allows
pub record AreVisitSets (model : Model) (d v : ℕ) (sets : List (List Run)) : Type 0 where
  pub one_of_each : length sets ≡ model.nodes
  pub each : (node : ℕ) (other : List Run) → node < length sets → IsTrue (is_visit model node)
      → IsStopSet model d v (Visit node) (slice_index_or sets node other)

-- the levels are what vehicle v reaches in dimension d at the last visit of the list, whatever comes next. If the list
-- is empty, they are what it reaches at its start
abbrev pub AreReachedBehind : Model → ℕ → ℕ → List ℕ → List (List Run) → Type 0
AreReachedBehind model d v list levels = (rest : List ℕ) → IsDriven model (list ++ rest)
    → AreReached (line model d v (list ++ rest)) (length list) levels

-- the front is that of a list, for its vehicle and in its dimension
pub record IsFront (model : Model) (list : List ℕ) (front : Front) : Type 0 where
  pub dimension : front.dimension < length model.dimensions
  pub vehicle : front.vehicle < length model.vehicles
  pub breaks : front.breaks ≡ breaks_of (dimension_at model front.dimension) front.vehicle
  pub each_break : All IsBreak front.breaks
  pub few_breaks : length front.breaks ≤ 8
  pub visits : AreVisitSets model front.dimension front.vehicle front.visits.items
  pub ending : IsStopSet model front.dimension front.vehicle End front.ending
  pub form : AreLevels front.breaks front.here
  pub reached : AreReachedBehind model front.dimension front.vehicle list front.here

-- the front is that of a list of vehicle v in dimension d
pub record IsFrontOf (model : Model) (d v : ℕ) (list : List ℕ) (front : Front) : Type 0 where
  pub front_of_list : IsFront model list front
  pub dimension_is : front.dimension ≡ d
  pub vehicle_is : front.vehicle ≡ v

-- the fronts of a list of vehicle v in each dimension
pub record AreFronts (model : Model) (v : ℕ) (list : List ℕ) (fronts : List Front) : Type 0 where
  pub one_of_each : length fronts ≡ length model.dimensions
  pub each : (d : ℕ) (other : Front) → d < length fronts → IsFrontOf model d v list (slice_index_or fronts d other)

-- the fronts of a list of vehicle v in each dimension, as the code holds them
abbrev pub AreFrontsOf : Model → ℕ → List ℕ → Fronts → Type 0
AreFrontsOf model v list fronts = AreFronts model v list fronts.each.items
