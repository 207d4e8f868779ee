use Rattle.vr_read.proofs.vehicles.VehicleTable.keep_fields.Goals as goal

pub returns-in-One : goal.returns-in-One
returns-in-One c = rw c.in-One.is c.known.ensures

pub returns-in-Two : goal.returns-in-Two
returns-in-Two c = rw c.in-Two.is c.known-in-Two.ensures
