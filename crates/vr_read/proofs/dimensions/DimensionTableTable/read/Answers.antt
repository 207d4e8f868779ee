use Rattle.std.proofs.Common.{rules}
use Rattle.vr_json.proofs.Steps.{then, stops, gives}
use Rattle.vr_read.specs.Dimensions.{dimension}
use Rattle.vr_read.proofs.dimensions.DimensionTableTable.read.Goals as goal

pub returns-in_err-span_costs : goal.returns-in_err-span_costs
unfolding dimension
returns-in_err-span_costs c = then _ c.in_ok-name.ensures
    (then _ c.in_ok-transits.ensures
    (then _ c.in_ok-bounds.ensures (then _ c.in_ok-rows.ensures (stops _ _ c.in_err-span_costs.ensures c.from_residual-in_err-span_costs.ensures.1))))

pub returns-in_err-known : goal.returns-in_err-known
unfolding dimension
returns-in_err-known c = then _ c.in_ok-name.ensures
    (then _ c.in_ok-transits.ensures
    (then _ c.in_ok-bounds.ensures
    (then _ c.in_ok-rows.ensures (then _ c.in_ok-span_costs.ensures (stops _ _ c.in_err-known.ensures c.from_residual-in_err-known.ensures.1)))))

pub returns : goal.returns
unfolding dimension
returns c = then _ c.in_ok-name.ensures
    (then _ c.in_ok-transits.ensures
    (then _ c.in_ok-bounds.ensures (then _ c.in_ok-rows.ensures (then _ c.in_ok-span_costs.ensures (then _ c.in_ok-known.ensures (gives (search rules)))))))
