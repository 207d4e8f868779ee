use Rattle.std.proofs.Common.{rules}
use Rattle.vr_json.proofs.Steps.{then, gives}
use Rattle.vr_read.specs.Vehicles.{ends}
use Rattle.vr_read.proofs.vehicles.VehicleTable.ends.Goals as goal

pub returns : goal.returns
unfolding ends
returns c = then _ c.in_ok-start.ensures (then _ c.in_ok-end.ensures (gives (search rules)))
