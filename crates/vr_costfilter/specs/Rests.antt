-- What is left of the line of a vehicle after a way: how early it can end, and how late its first stop may be.
use Rattle.std.specs.Prelude.{ℕ, List, slice_index_or, ℤ, pos, ◌+ℤ◌, ◌-ℤ◌}
use Rattle.std.specs.Int.{int_max, int_min}
use Rattle.vr_spans.specs.declared.runs.Run.{Run}
use Rattle.vr_model.specs.tables.Tables.{transit, vehicle_at}
use Rattle.vr_model.specs.declared.records.Model.{Model}
use Rattle.vr_earliest.specs.Entries.{back_from}
use Rattle.vr_costfilter.specs.Runs.{Runs, no_run}
use Rattle.vr_costfilter.specs.Ways.{AreTightArcs}
use Rattle.vr_costfilter.specs.declared.rests.Rest.{Rest}
use Rattle.vr_costfilter.specs.declared.tight.Way.{Way}

-- what is left from the end of vehicle v on
abbrev pub rest_at_end : Model → ℕ → Runs → Rest
rest_at_end model v runs = record {
  at = (vehicle_at model v).end;
  transits = pos 0;
  least_end = runs.finish.lo;
  latest_cumul = runs.finish.hi;
}

-- what is left from a stop on that allows a run of cumuls, over an arc that takes t to the next one
abbrev pub rest_by : ℤ → ℕ → Run → Rest → Rest
rest_by t node allowed rest = record {
  at = node;
  transits = t +ℤ rest.transits;
  least_end = int_max (allowed.lo +ℤ (t +ℤ rest.transits)) rest.least_end;
  latest_cumul = int_min allowed.hi (rest.latest_cumul -ℤ t);
}

-- what is left from a visit on, which comes before what is left from the next stop on
abbrev pub rest_before : Model → ℕ → ℕ → Runs → ℕ → Rest → Rest
rest_before model d v runs node rest =
    rest_by (transit model d v node rest.at) node (slice_index_or runs.visits node no_run) rest

-- what is left from the first of some visits on, through all of them to the end of vehicle v
abbrev pub tight_rest_of : Model → ℕ → ℕ → Runs → List ℕ → Rest
tight_rest_of model d v runs nodes = back_from (rest_at_end model v runs) (rest_before model d v runs) nodes

-- a way goes on to a stop, over an arc that takes t, and through what is left from there to the end
abbrev pub through_by : ℤ → ℕ → Rest → Way → Way
through_by t end rest way = record {
  at = end;
  time = int_max (way.time +ℤ (t +ℤ rest.transits)) rest.least_end;
  transits = way.transits +ℤ (t +ℤ rest.transits);
  latest = int_min way.latest (rest.latest_cumul -ℤ (way.transits +ℤ t));
}

-- a way of vehicle v goes on so
abbrev pub way_through : Model → ℕ → ℕ → Way → Rest → Way
way_through model d v way rest =
    through_by (transit model d v way.at rest.at) (vehicle_at model v).end rest way

-- the numbers of what is left of n arcs
abbrev pub IsTightRestOf : Model → ℕ → Rest → Type 0
IsTightRestOf model n rest = AreTightArcs model n rest.at rest.least_end rest.transits rest.latest_cumul
