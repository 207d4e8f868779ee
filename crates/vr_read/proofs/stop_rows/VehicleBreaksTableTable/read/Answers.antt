use Rattle.std.proofs.Common.{refl, rules}
use Rattle.vr_json.proofs.Steps.{then, stops, gives, asked}
use Rattle.vr_read.specs.StopRows.{vehicle_breaks}
use Rattle.vr_read.proofs.stop_rows.VehicleBreaksTableTable.read.Goals as goal

pub returns-in_err-refuse_if : goal.returns-in_err-refuse_if
unfolding vehicle_breaks
returns-in_err-refuse_if c =
    then _ c.in_ok-vehicle.ensures (stops _ _ (asked _ c.has_breaks.ensures refl c.in_err-refuse_if.ensures) c.from_residual-in_err-refuse_if.ensures.1)

pub returns-in_err-rows : goal.returns-in_err-rows
unfolding vehicle_breaks
returns-in_err-rows c = then _ c.in_ok-vehicle.ensures
    (then _ (asked _ c.has_breaks.ensures refl c.in_ok-refuse_if.ensures) (stops _ _ c.in_err-rows.ensures c.from_residual-in_err-rows.ensures.1))

pub returns-in_err-known : goal.returns-in_err-known
unfolding vehicle_breaks
returns-in_err-known c = then _ c.in_ok-vehicle.ensures
    (then _ (asked _ c.has_breaks.ensures refl c.in_ok-refuse_if.ensures)
    (then _ c.in_ok-rows.ensures (stops _ _ c.in_err-known.ensures c.from_residual-in_err-known.ensures.1)))

pub returns : goal.returns
unfolding vehicle_breaks
returns c = then _ c.in_ok-vehicle.ensures
    (then _ (asked _ c.has_breaks.ensures refl c.in_ok-refuse_if.ensures) (then _ c.in_ok-rows.ensures (then _ c.in_ok-known.ensures (gives (search rules)))))
