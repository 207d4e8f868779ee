use Rattle.std.proofs.Common.{refl}
use Rattle.vr_json.proofs.Steps.{gives}
use Rattle.vr_read.specs.Vehicles.{schedule}
use Rattle.vr_read.proofs.vehicles.VehicleTable.schedule.Goals as goal

pub returns-in-One : goal.returns-in-One
unfolding schedule
returns-in-One c = rw c.in-One.is (gives refl)

pub returns-in-Two : goal.returns-in-Two
unfolding schedule
returns-in-Two c = rw c.in-Two.is c.optional.ensures
