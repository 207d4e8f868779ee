use Rattle.std.proofs.Common.{refl, rules}
use Rattle.vr_json.proofs.Steps.{then, stops, gives, asked}
use Rattle.vr_read.specs.Visits.{pair}
use Rattle.vr_read.proofs.groups.PairTableTable.read.Goals as goal

pub returns-in_err-refuse_if-2 : goal.returns-in_err-refuse_if-2
unfolding pair
returns-in_err-refuse_if-2 c = then _ c.in_ok-pickup.ensures
    (then _ (asked _ c.is_paired.ensures refl c.in_ok-refuse_if.ensures)
    (then _ c.in_ok-delivery.ensures (stops _ _ (asked _ (search rules) refl c.in_err-refuse_if-2.ensures) c.from_residual-in_err-refuse_if-2.ensures.1)))

pub returns-in_err-known : goal.returns-in_err-known
unfolding pair
returns-in_err-known c = then _ c.in_ok-pickup.ensures
    (then _ (asked _ c.is_paired.ensures refl c.in_ok-refuse_if.ensures)
    (then _ c.in_ok-delivery.ensures
    (then _ (asked _ (search rules) refl c.in_ok-refuse_if-2.ensures) (stops _ _ c.in_err-known.ensures c.from_residual-in_err-known.ensures.1))))

pub returns : goal.returns
unfolding pair
returns c = then _ c.in_ok-pickup.ensures
    (then _ (asked _ c.is_paired.ensures refl c.in_ok-refuse_if.ensures)
    (then _ c.in_ok-delivery.ensures (then _ (asked _ (search rules) refl c.in_ok-refuse_if-2.ensures) (then _ c.in_ok-known.ensures (gives (search rules))))))
