use Rattle.std.proofs.Common.{rules}
use Rattle.vr_json.proofs.Steps.{then, stops, gives, otherwise}
use Rattle.vr_read.specs.Dimensions.{transits}
use Rattle.std.proofs.Common.{arith}
use Rattle.vr_json.proofs.Readings.{field_length}
use Rattle.vr_read.proofs.dimensions.DimensionTable.transits.Goals as goal

pub returns-in_err-evaluators : goal.returns-in_err-evaluators
unfolding transits
returns-in_err-evaluators c = stops _ _ c.in_err-evaluators.ensures c.from_residual.ensures.1

pub returns-in_err-vehicle_evaluators : goal.returns-in_err-vehicle_evaluators
unfolding transits
returns-in_err-vehicle_evaluators c = then _ c.in_ok-evaluators.ensures
    (stops _ _ (otherwise _ _ _ _ c.in_ok-zeros.ensures (rw c.len-count.ensures at c.in_err-vehicle_evaluators.ensures))
    c.from_residual-in_err-vehicle_evaluators.ensures.1)

pub returns : goal.returns
unfolding transits
returns c = then _ c.in_ok-evaluators.ensures
    (then _ (otherwise _ _ _ _ c.in_ok-zeros.ensures (rw c.len-count.ensures at c.in_ok-vehicle_evaluators.ensures)) (gives (search rules)))

pub overflow_cast-count : goal.overflow_cast-count
overflow_cast-count c = let within = field_length _ 1 8 _ _ _ _ c.in_ok-evaluators.ensures in omega (arith, within.at_most, c.len-count.ensures)
