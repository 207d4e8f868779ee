use Rattle.std.proofs.Common.{rules}
use Rattle.vr_json.proofs.Steps.{then, stops, gives}
use Rattle.vr_read.specs.Vehicles.{vehicle}
use Rattle.vr_read.proofs.vehicles.VehicleTableTable.read.Goals as goal

pub returns-in_err-keep_fields : goal.returns-in_err-keep_fields
unfolding vehicle
returns-in_err-keep_fields c = then _ c.in_ok-ends.ensures
    (then _ c.in_ok-costs.ensures
    (then _ c.in_ok-fixed.ensures
    (then _ c.in_ok-policy.ensures (then _ c.in_ok-schedule.ensures (stops _ _ c.in_err-keep_fields.ensures c.from_residual-in_err-keep_fields.ensures.1)))))

pub returns : goal.returns
unfolding vehicle
returns c = then _ c.in_ok-ends.ensures (then _ c.in_ok-costs.ensures (then _ c.in_ok-fixed.ensures
    (then _ c.in_ok-policy.ensures (then _ c.in_ok-schedule.ensures (then _ c.in_ok-keep_fields.ensures (gives (search rules)))))))
