use Rattle.std.proofs.Common.{rules}
use Rattle.vr_json.proofs.Steps.{then, stops, gives}
use Rattle.vr_read.specs.Dimensions.{rows}
use Rattle.vr_read.proofs.dimensions.DimensionTable.rows.Goals as goal

pub returns-in_err-breaks : goal.returns-in_err-breaks
unfolding rows
returns-in_err-breaks c = then _ c.in_ok-nodes.ensures
    (then _ c.in_ok-starts.ensures (then _ c.in_ok-ends.ensures (stops _ _ c.in_err-breaks.ensures c.from_residual-in_err-breaks.ensures.1)))

pub returns : goal.returns
unfolding rows
returns c = then _ c.in_ok-nodes.ensures (then _ c.in_ok-starts.ensures (then _ c.in_ok-ends.ensures (then _ c.in_ok-breaks.ensures (gives (search rules)))))
