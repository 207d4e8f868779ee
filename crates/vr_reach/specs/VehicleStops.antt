-- The stops that one vehicle may have in one dimension.
use Rattle.std.specs.Prelude.{ℕ, ◌<◌, List, length}
use Rattle.vr_model.specs.schedules.Lines.{Line, line}
use Rattle.vr_reach.specs.declared.driven.Driven.{Driven}
use Rattle.vr_reach.specs.declared.stops.StopsFor.{StopsFor}
use Rattle.vr_reach.specs.Stops.{AreStops}

-- the line of the vehicle with a list
abbrev pub line_for : StopsFor → List ℕ → Line
line_for stops list = line stops.closed.model.now stops.d stops.v list

-- a vehicle of the model in one of its dimensions, with the stops of that
pub record AreStopsFor (stops : StopsFor) : Type 0 where
  pub dimension : stops.d < length stops.closed.model.now.dimensions
  pub vehicle : stops.v < length stops.closed.model.now.vehicles
  pub are : AreStops stops.closed.model.now stops.d stops.of_dimension.now

-- the line of a vehicle with a list that it drives
abbrev pub line_of : Driven → Line
line_of of = line of.closed.model.now of.d of.v of.list.now
