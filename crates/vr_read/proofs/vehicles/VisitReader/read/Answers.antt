use Rattle.std.proofs.Common.{refl, rules}
use Rattle.vr_json.proofs.Steps.{then, gives, asked}
use Rattle.vr_read.specs.Vehicles.{visit}
use Rattle.vr_read.proofs.vehicles.VisitReader.read.Goals as goal

pub returns : goal.returns
unfolding visit
returns c = then _ c.in_ok-node.ensures (then _ (asked _ c.is_terminal.ensures refl c.in_ok-refuse_if.ensures) (gives (search rules)))
