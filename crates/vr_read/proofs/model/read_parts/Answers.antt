use Rattle.std.proofs.Common.{rules}
use Rattle.vr_json.proofs.Steps.{then, gives, otherwise}
use Rattle.vr_read.specs.Models.{parts}
use Rattle.vr_read.proofs.model.read_parts.Goals as goal

pub returns : goal.returns
unfolding parts
returns c = then _ c.in_ok-dimensions.ensures
    (then _ c.in_ok-tables.ensures (then _ (otherwise _ _ _ _ c.in_ok-usual.ensures c.in_ok-search.ensures) (gives (search rules))))
