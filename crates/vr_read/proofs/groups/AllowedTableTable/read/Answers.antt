use Rattle.std.proofs.Common.{refl, rules}
use Rattle.vr_json.proofs.Steps.{then, stops, gives, asked}
use Rattle.vr_read.specs.Visits.{allowed}
use Rattle.vr_read.proofs.groups.AllowedTableTable.read.Goals as goal

pub returns-in_err-refuse_if : goal.returns-in_err-refuse_if
unfolding allowed
returns-in_err-refuse_if c =
    then _ c.in_ok-node.ensures (stops _ _ (asked _ c.has_allowed.ensures refl c.in_err-refuse_if.ensures) c.from_residual-in_err-refuse_if.ensures.1)

pub returns-in_err-vehicles : goal.returns-in_err-vehicles
unfolding allowed
returns-in_err-vehicles c = then _ c.in_ok-node.ensures
    (then _ (asked _ c.has_allowed.ensures refl c.in_ok-refuse_if.ensures) (stops _ _ c.in_err-vehicles.ensures c.from_residual-in_err-vehicles.ensures.1))

pub returns-in_err-known : goal.returns-in_err-known
unfolding allowed
returns-in_err-known c = then _ c.in_ok-node.ensures
    (then _ (asked _ c.has_allowed.ensures refl c.in_ok-refuse_if.ensures)
    (then _ c.in_ok-vehicles.ensures (stops _ _ c.in_err-known.ensures c.from_residual-in_err-known.ensures.1)))

pub returns : goal.returns
unfolding allowed
returns c = then _ c.in_ok-node.ensures
    (then _ (asked _ c.has_allowed.ensures refl c.in_ok-refuse_if.ensures)
    (then _ c.in_ok-vehicles.ensures (then _ c.in_ok-known.ensures (gives (search rules)))))
