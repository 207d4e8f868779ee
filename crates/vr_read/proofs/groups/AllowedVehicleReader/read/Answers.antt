use Rattle.std.proofs.Common.{refl, rules}
use Rattle.vr_json.proofs.Steps.{then, gives, asked}
use Rattle.vr_read.specs.Visits.{allowed_vehicle}
use Rattle.vr_read.proofs.groups.AllowedVehicleReader.read.Goals as goal

pub returns : goal.returns
unfolding allowed_vehicle
returns c = then _ c.in_ok-vehicle.ensures (then _ (asked _ c.is_held.ensures refl c.in_ok-refuse_if.ensures) (gives (search rules)))
