use Rattle.std.proofs.Common.{rules}
use Rattle.vr_json.proofs.Steps.{then, stops, gives, otherwise}
use Rattle.vr_read.specs.Dimensions.{span_costs}
use Rattle.vr_read.proofs.dimensions.DimensionTable.span_costs.Goals as goal

pub returns-in_err-by_vehicle : goal.returns-in_err-by_vehicle
unfolding span_costs
returns-in_err-by_vehicle c = stops _ _ (otherwise _ _ _ _ c.in_ok-zeros.ensures c.in_err-by_vehicle.ensures) c.from_residual-in_err-by_vehicle.ensures.1

pub returns-in_err-global : goal.returns-in_err-global
unfolding span_costs
returns-in_err-global c =
    then _ (otherwise _ _ _ _ c.in_ok-zeros.ensures c.in_ok-by_vehicle.ensures) (stops _ _ c.in_err-global.ensures c.from_residual-in_err-global.ensures.1)

pub returns : goal.returns
unfolding span_costs
returns c = then _ (otherwise _ _ _ _ c.in_ok-zeros.ensures c.in_ok-by_vehicle.ensures) (then _ c.in_ok-global.ensures (gives (search rules)))
