-- What is kept of committed lists.
use Rattle.std.specs.Prelude.{◌≡◌, ◌≢◌, ◌<◌, ◌+◌, ℕ, Bool, false, true, cond, pos, IsTrue, List, length, slice_index_or}
use Rattle.vr_model.specs.routes.Routes.{route}
use Rattle.vr_model.specs.schedules.Lines.{line}
use Rattle.vr_model.specs.schedules.Schedules.{IsFeasible}
use Rattle.vr_model.specs.tables.Tables.{dimension_at, vehicle_at}
use Rattle.vr_model.specs.declared.records.Dimension.{Dimension}
use Rattle.vr_model.specs.declared.records.Model.{Model}
use Rattle.vr_model.specs.declared.records.ScheduleRule.{ScheduleRule}
use Rattle.vr_model.specs.declared.records.ScheduleRule.TheVariants.{Earliest, Tight}
use Rattle.vr_plan.specs.declared.tables.Table.{Table}
use Rattle.vr_reach.specs.Lists.{IsTour}
use Rattle.vr_reach.specs.VisitRuns.{have_stops_one_run}
use Rattle.vr_costfilter.specs.KeptWays.{HasCumuls, HasWaysBy, HaveKeptWays}
use Rattle.vr_costfilter.specs.Runs.{between_runs, Runs, AreRuns}
use Rattle.vr_costfilter.specs.Steps.{HasStages}
use Rattle.vr_costfilter.specs.declared.all_cumuls.Paid.{Paid}
use Rattle.vr_costfilter.specs.declared.all_cumuls.Paid.TheVariants.{Alone, Together}
use Rattle.vr_costfilter.specs.KeptWays.{KeptTightWays}
use Rattle.vr_costfilter.specs.declared.kept.KeptList.{KeptList}

-- the rule chooses the tight schedule
abbrev pub is_tight : ScheduleRule → Bool
is_tight Earliest = false
is_tight Tight = true

-- what is kept has room for the two ends of a list if the rule chooses the tight schedule, and else none
abbrev pub HasRoom : ScheduleRule → KeptList → Type 0
HasRoom rule kept = length kept.ends.items ≡ cond (is_tight rule) 1 0

-- what is kept tells what changes make of a list of a vehicle that chooses its earliest schedule. It has a stage for
-- each stop.
abbrev pub HasAllStages : List ℕ → KeptList → Type 0
HasAllStages list kept = length kept.steps.stages.items ≡ length list + 2

-- the same of a vehicle that chooses its tight schedule. It has a way to each place.
pub record HasAllWays (list : List ℕ) (kept : KeptList) : Type 0 where
  pub room : 0 < length kept.ends.items
  pub ways : (other : KeptTightWays) → length (slice_index_or kept.ends.items 0 other).ways.items ≡ length list + 1

-- the same under a rule
abbrev pub HasAllAsked : ScheduleRule → List ℕ → KeptList → Type 0
HasAllAsked Earliest list kept = HasAllStages list kept
HasAllAsked Tight list kept = HasAllWays list kept

-- what is kept is of a list of vehicle v. If there are as many stages as stops, they are those of the list, and the
-- steps are those to its visits. If the vehicle chooses its tight schedule, they are so between two cumuls of its ends.
-- If there is a way to each place, the ways are those along the list. All that the rule asks is kept if the following
-- holds. The vehicle has no breaks, and no stop allows it more than one run of cumuls. The list is feasible and of
-- distinct visits. There is the room that the rule asks.
pub record IsKept (model : Model) (d v : ℕ) (list : List ℕ) (kept : KeptList) : Type 0 where
  pub earliest : (vehicle_at model v).schedule ≡ Earliest → (runs : Runs) → AreRuns model d v runs
      → HasStages model d v runs list kept.steps
  pub tight : (vehicle_at model v).schedule ≡ Tight → (runs : Runs) → AreRuns model d v runs
      → HasStages model d v (between_runs runs kept.between.start kept.between.last) list kept.steps
  pub between : HasCumuls kept.between
  pub ends : HaveKeptWays model d v list kept.ends.items
  pub whole : IsTour model list → IsTrue (have_stops_one_run model d v) → IsFeasible (line model d v list)
      → HasRoom (vehicle_at model v).schedule kept → HasAllAsked (vehicle_at model v).schedule list kept

-- of a list of vehicle v the ways to its ends are kept by these runs, and no stage between them yet
pub record HasWaysAlone (model : Model) (d v : ℕ) (runs : Runs) (list : List ℕ) (kept : KeptList) : Type 0 where
  pub ends : 0 < length kept.ends.items
  pub ways : (other : KeptTightWays) → HasWaysBy model d v runs list (slice_index_or kept.ends.items 0 other)
  pub none : length kept.steps.stages.items ≡ 0
  pub between : HasCumuls kept.between

-- what is kept tells what changes make of a list of vehicle v. Something is kept of it, and so is all that its rule
-- asks. The vehicle has no breaks, and no stop allows it more than one run of cumuls.
pub record IsKnown (model : Model) (d v : ℕ) (list : List ℕ) (kept : List KeptList) : Type 0 where
  pub known : v < length kept
  pub runs : IsTrue (have_stops_one_run model d v)
  pub tells : (other : KeptList) → HasAllAsked (vehicle_at model v).schedule list (slice_index_or kept v other)

-- what is kept in dimension d is of these lists
pub record AreKept (model : Model) (d : ℕ) (lists : List (List ℕ)) (kept : List KeptList) : Type 0 where
  pub each : (v : ℕ) (other : KeptList) → v < length kept
      → IsKept model d v (route lists v) (slice_index_or kept v other)
  pub room : (v : ℕ) (other : KeptList) → v < length kept
      → HasRoom (vehicle_at model v).schedule (slice_index_or kept v other)

-- the same in each dimension
pub record AreAllKept (model : Model) (lists : List (List ℕ)) (kept : List (List KeptList)) : Type 0 where
  pub many : length kept ≡ length model.dimensions
  pub each : (d : ℕ) (other : List KeptList) → d < length kept → AreKept model d lists (slice_index_or kept d other)

-- a dimension has such costs. Alone: its table says that it has soft upper bounds, or a coefficient of the spans of
-- vehicles. Together: its global span has a coefficient other than 0.
abbrev pub IsPaid : Paid → Table → Dimension → Type 0
IsPaid Alone table dimension = table.is_free ≡ false
IsPaid Together table dimension = dimension.global_span_cost ≢ pos 0

-- in each dimension with such costs something is kept of each of n lists
pub record AreOfEach (model : Model) (tables : List Table) (paid : Paid) (n : ℕ) (kept : List (List KeptList)) :
    Type 0 where
  pub each : (d : ℕ) (other : List KeptList) (table : Table) → d < length kept
      → IsPaid paid (slice_index_or tables d table) (dimension_at model d)
      → length (slice_index_or kept d other) ≡ n

-- in each dimension something is kept of as many lists as before
pub record AreAsMany (old new : List (List KeptList)) : Type 0 where
  pub many : length new ≡ length old
  pub each : (d : ℕ) (other : List KeptList) → d < length new
      → length (slice_index_or new d other) ≡ length (slice_index_or old d other)
