-- A leg of a list, along which a walk goes.
use Rattle.vr_model.specs.schedules.Lines.{Line}
use Rattle.vr_reach.specs.VehicleStops.{line_of}
use Rattle.vr_reach.specs.declared.legs.Leg.{Leg}

-- the line of the list of a leg
abbrev pub line_of_leg : Leg → Line
line_of_leg leg = line_of leg.stops.of
