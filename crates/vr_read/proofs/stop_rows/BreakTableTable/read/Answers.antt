use Rattle.std.proofs.Common.{rules}
use Rattle.vr_json.proofs.Steps.{then, stops, gives, asked}
use Rattle.vr_read.specs.StopRows.{break_row}
use Rattle.vr_read.proofs.stop_rows.BreakTableTable.read.Goals as goal

pub returns-in_err-refuse_if : goal.returns-in_err-refuse_if
unfolding break_row
returns-in_err-refuse_if c = then _ c.in_ok-from.ensures
    (then _ c.in_ok-to.ensures
    (then _ c.in_ok-duration.ensures
    (then _ c.in_ok-known.ensures (stops _ _ (asked _ (search rules) c.here.ensures c.in_err-refuse_if.ensures) c.from_residual-in_err-refuse_if.ensures.1))))

pub returns : goal.returns
unfolding break_row
returns c = then _ c.in_ok-from.ensures (then _ c.in_ok-to.ensures (then _ c.in_ok-duration.ensures
    (then _ c.in_ok-known.ensures (then _ (asked _ (search rules) c.here.ensures c.in_ok-refuse_if.ensures) (gives (search rules))))))
