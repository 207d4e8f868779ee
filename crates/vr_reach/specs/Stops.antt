-- What is kept of the stops that vehicles may have in a dimension.
use Rattle.std.specs.Prelude.{◌≡◌, ℕ, suc, ◌<◌, ◌≤◌, List, length, slice_index_or, All}
use Rattle.vr_model.specs.tables.Tables.{dimension_at, breaks_of}
use Rattle.vr_model.specs.schedules.Lines.{line}
use Rattle.vr_model.specs.tables.WellFormed.{IsBreak}
use Rattle.vr_model.specs.declared.records.Model.{Model}
use Rattle.vr_steps.specs.declared.stops.StopName.TheVariants.{Start, End}
use Rattle.vr_steps.specs.Levels.{AreLevels}
use Rattle.vr_steps.specs.Reached.{AreReached, AreReachingEnd}
use Rattle.vr_steps.specs.Stops.{allowed_by}
use Rattle.vr_reach.specs.declared.ends.Ends.{Ends}
use Rattle.vr_reach.specs.declared.stops.Stops.{Stops}
use Rattle.vr_reach.specs.Lists.{IsUsed}
use Rattle.vr_reach.specs.VisitRuns.{AreRunTables}
use Rattle.vr_reach.specs.VisitSets.{IsSetOf, AreSets}

-- the breaks of vehicle v, as a line of a well-formed model may have them
pub record AreSoundBreaks (model : Model) (d v : ℕ) (ends : Ends) : Type 0 where
  pub same : ends.breaks ≡ breaks_of (dimension_at model d) v
  pub few : length ends.breaks ≤ 8
  pub valid : All IsBreak ends.breaks

-- the breaks of vehicle v, and what its start and its end allow
pub record AreEndSets (model : Model) (d v : ℕ) (ends : Ends) : Type 0 where
  pub breaks_are : AreSoundBreaks model d v ends
  pub start_set_is : IsSetOf (allowed_by model d v Start) ends.start_set
  pub end_set_is : IsSetOf (allowed_by model d v End) ends.end_set

-- the same, with the levels of its start and its end in each of its lines
pub record AreEndsOf (model : Model) (d v : ℕ) (ends : Ends) : Type 0 where
  pub sets : AreEndSets model d v ends
  pub start_form : AreLevels ends.breaks ends.start_levels
  pub start_is : (list : List ℕ) → IsUsed model list → AreReached (line model d v list) 0 ends.start_levels
  pub end_form : AreLevels ends.breaks ends.end_levels
  pub end_is : (list : List ℕ) → IsUsed model list
      → AreReachingEnd (line model d v list) (suc (length list)) ends.end_levels

-- the ends of each vehicle, and what visits allow it, with the runs of that if none allows more than one
pub record AreStops (model : Model) (d : ℕ) (stops : Stops) : Type 0 where
  pub ends_of_each : length stops.ends.items ≡ length model.vehicles
  pub ends : (v : ℕ) (other : Ends) → v < length stops.ends.items
      → AreEndsOf model d v (slice_index_or stops.ends.items v other)
  pub visits : AreSets model d (length model.vehicles) stops.visits
  pub runs : AreRunTables stops.visits.tables stops.runs
