use Rattle.std.proofs.Common.{◌+◌, ap₂}
use Rattle.vr_ruin.specs.Lacking.{lack}
use Rattle.vr_ruin.proofs.lacking.lack_of.Goals as goal

pub returns : goal.returns
unfolding lack
returns c = record { value = ap₂ (λ a b. a + b) c.missing_items.ensures.value c.missing_nodes.ensures.value }
