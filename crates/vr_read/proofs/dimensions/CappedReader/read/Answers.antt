use Rattle.std.proofs.Common.{rules}
use Rattle.vr_json.proofs.Steps.{then, gives}
use Rattle.vr_read.specs.Dimensions.{capped}
use Rattle.vr_read.proofs.dimensions.CappedReader.read.Goals as goal

pub returns : goal.returns
unfolding capped
returns c = then _ c.in_ok-number.ensures (gives (search rules))
