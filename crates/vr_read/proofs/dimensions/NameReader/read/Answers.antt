use Rattle.std.proofs.Common.{refl, rules}
use Rattle.vr_json.proofs.Steps.{then, gives, asked}
use Rattle.vr_read.specs.Dimensions.{name}
use Rattle.vr_read.proofs.dimensions.NameReader.read.Goals as goal

pub returns : goal.returns
unfolding name
returns c = then _ c.in_ok-name.ensures (then _ (asked _ c.has_name.ensures refl c.in_ok-refuse_if.ensures) (gives (search rules)))
