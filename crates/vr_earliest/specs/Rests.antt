-- What is left of the line of a vehicle after a way.
use Rattle.std.specs.Prelude.{ℕ, List, pos, ◌+ℤ◌}
use Rattle.std.specs.Int.{int_max}
use Rattle.vr_model.specs.tables.Tables.{transit, vehicle_at}
use Rattle.vr_model.specs.declared.records.Model.{Model}
use Rattle.vr_earliest.specs.Entries.{back_from}
use Rattle.vr_earliest.specs.Floors.{end_floor, visit_floor}
use Rattle.vr_earliest.specs.Ways.{AreArcs}
use Rattle.vr_earliest.specs.declared.ways.Rest.{Rest}
use Rattle.vr_earliest.specs.declared.ways.Way.{Way}

-- what is left from the end of vehicle v on
abbrev pub at_end : Model → ℕ → ℕ → Rest
at_end model d v = record { at = (vehicle_at model v).end; transits = pos 0; least_end = end_floor model d v }

-- what is left from a visit on, which comes before what is left from the next stop on
abbrev pub rest_with_visit : Model → ℕ → ℕ → ℕ → Rest → Rest
rest_with_visit model d v node rest =
    let transits = transit model d v node rest.at +ℤ rest.transits in
    record {
      at = node;
      transits = transits;
      least_end = int_max (visit_floor model d node +ℤ transits) rest.least_end;
    }

-- what is left from the first of some visits on, through all of them to the end of vehicle v
abbrev pub rest_of : Model → ℕ → ℕ → List ℕ → Rest
rest_of model d v nodes = back_from (at_end model d v) (rest_with_visit model d v) nodes

-- a way goes on to a stop and through what is left from there to the end
abbrev pub way_through_rest : Model → ℕ → ℕ → Way → Rest → Way
way_through_rest model d v way rest =
    let left = transit model d v way.at rest.at +ℤ rest.transits in
    record {
      at = (vehicle_at model v).end;
      time = int_max (way.time +ℤ left) rest.least_end;
      transits = way.transits +ℤ left;
    }

-- the numbers of what is left of n arcs
abbrev pub IsRestOf : Model → ℕ → Rest → Type 0
IsRestOf model n rest = AreArcs model n rest.at rest.least_end rest.transits

-- what is left of a list, of 1000 nodes at most
abbrev pub IsListRest : Model → Rest → Type 0
IsListRest model = IsRestOf model 1000
