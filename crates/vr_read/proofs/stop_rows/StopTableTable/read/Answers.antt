use Rattle.std.proofs.Common.{refl, rules}
use Rattle.vr_json.proofs.Steps.{then, stops, gives, asked}
use Rattle.vr_read.specs.StopRows.{stop_row}
use Rattle.vr_read.proofs.stop_rows.StopTableTable.read.Goals as goal

pub returns-in_err-known : goal.returns-in_err-known
unfolding stop_row
returns-in_err-known g c = then _ c.in_ok-key.ensures
    (then _ (asked _ c.has_row.ensures refl c.in_ok-refuse_if.ensures)
    (then _ c.in_ok-limits.ensures (stops _ _ c.in_err-known.ensures c.from_residual-in_err-known.ensures.1)))

pub returns : goal.returns
unfolding stop_row
returns g c = then _ c.in_ok-key.ensures
    (then _ (asked _ c.has_row.ensures refl c.in_ok-refuse_if.ensures) (then _ c.in_ok-limits.ensures (then _ c.in_ok-known.ensures (gives (search rules)))))
