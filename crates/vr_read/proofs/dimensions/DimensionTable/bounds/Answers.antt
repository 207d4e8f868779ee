use Rattle.std.proofs.Common.{rules}
use Rattle.vr_json.proofs.Steps.{then, gives, otherwise}
use Rattle.vr_read.specs.Dimensions.{bounds}
use Rattle.vr_read.proofs.dimensions.DimensionTable.bounds.Goals as goal

pub returns : goal.returns
unfolding bounds
returns c = then _ c.in_ok-slack_max.ensures
    (then _ c.in_ok-capacities.ensures
    (then _ c.in_ok-fix_start.ensures (then _ (otherwise _ _ _ _ c.in_ok-zeros.ensures c.in_ok-visit.ensures) (gives (search rules)))))
