-- What is kept of committed lists of vehicles that choose their tight schedules.
use Rattle.std.specs.Prelude.{◌≡◌, ◌<◌, ℕ, suc, pos, List, length, slice_index_or}
use Rattle.vr_model.specs.tables.Numbers.{horizon}
use Rattle.vr_model.specs.tables.WellFormed.{IsIn}
use Rattle.vr_model.specs.declared.records.Model.{Model}
use Rattle.vr_earliest.specs.Entries.{KeepsWays}
use Rattle.vr_earliest.specs.declared.kept_ways.KeptWays.{KeptWays as KeptPlaces}
use Rattle.vr_costfilter.specs.Runs.{Runs, AreRuns}
use Rattle.vr_costfilter.specs.Rests.{rest_at_end, rest_before}
use Rattle.vr_costfilter.specs.Ways.{last_by, nearest_cumul, start_by, way_out, way_to_visit, whole_tight_way}
use Rattle.vr_costfilter.specs.declared.rests.Rest.{Rest}
use Rattle.vr_costfilter.specs.declared.tight.TightEnds.{TightEnds}
use Rattle.vr_costfilter.specs.declared.tight.Way.{Way}

-- what is kept of the list of a vehicle
abbrev pub KeptTightWays : Type 0
KeptTightWays = KeptPlaces Way Rest

-- what is kept has the ways along the first nodes of a list of vehicle v, and what is left after each of them. They are
-- by these runs, which its stops allow.
pub record HasWaysBy (model : Model) (d v : ℕ) (runs : Runs) (list : List ℕ) (ends : KeptTightWays) : Type 0 where
  pub runs_are : AreRuns model d v runs
  pub keeps : KeepsWays (way_out model v runs) (way_to_visit model d v runs) (rest_at_end model v runs)
      (rest_before model d v runs) list ends

-- the same by some runs
pub record AreWays (model : Model) (d v : ℕ) (list : List ℕ) (ends : KeptTightWays) : Type 0 where
  pub runs : Runs
  pub has : HasWaysBy model d v runs list ends

-- if as many ways are kept as there are numbers of first visits, they are those of a list of vehicle v
pub record AreKeptWays (model : Model) (d v : ℕ) (list : List ℕ) (ends : KeptTightWays) : Type 0 where
  pub ways : length ends.ways.items ≡ suc (length list) → AreWays model d v list ends

-- if something is kept so, it is of a list of vehicle v
pub record HaveKeptWays (model : Model) (d v : ℕ) (list : List ℕ) (ends : List KeptTightWays) : Type 0 where
  pub first : (other : KeptTightWays) → 0 < length ends → AreKeptWays model d v list (slice_index_or ends 0 other)

-- both ends of a schedule are at cumuls
pub record HasCumuls (ends : TightEnds) : Type 0 where
  pub start : IsIn (pos 0) horizon ends.start
  pub last : IsIn (pos 0) horizon ends.last

-- these are the ends that the whole way of vehicle v along a list tells, brought within the horizon
pub record AreTightEndsOf (model : Model) (d v : ℕ) (runs : Runs) (list : List ℕ) (ends : TightEnds) : Type 0 where
  pub last : ends.last ≡ nearest_cumul (last_by (whole_tight_way model d v runs list))
  pub start : ends.start ≡ nearest_cumul (start_by (whole_tight_way model d v runs list))
