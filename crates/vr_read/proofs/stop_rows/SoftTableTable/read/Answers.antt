use Rattle.std.proofs.Common.{rules}
use Rattle.vr_json.proofs.Steps.{then, stops, gives}
use Rattle.vr_read.specs.StopRows.{soft}
use Rattle.vr_read.proofs.stop_rows.SoftTableTable.read.Goals as goal

pub returns-in_err-coefficient : goal.returns-in_err-coefficient
unfolding soft
returns-in_err-coefficient c = then _ c.in_ok-bound.ensures (stops _ _ c.in_err-coefficient.ensures c.from_residual-in_err-coefficient.ensures.1)

pub returns-in_err-known : goal.returns-in_err-known
unfolding soft
returns-in_err-known c =
    then _ c.in_ok-bound.ensures (then _ c.in_ok-coefficient.ensures (stops _ _ c.in_err-known.ensures c.from_residual-in_err-known.ensures.1))

pub returns : goal.returns
unfolding soft
returns c = then _ c.in_ok-bound.ensures (then _ c.in_ok-coefficient.ensures (then _ c.in_ok-known.ensures (gives (search rules))))
