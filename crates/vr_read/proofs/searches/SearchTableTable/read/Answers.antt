use Rattle.std.proofs.Common.{rules}
use Rattle.vr_json.proofs.Steps.{then, stops, gives, otherwise}
use Rattle.vr_read.specs.Searches.{search_row}
use Rattle.vr_read.proofs.searches.SearchTableTable.read.Goals as goal

pub returns-in_err-known : goal.returns-in_err-known
unfolding search_row
returns-in_err-known c = then _ c.in_ok-choices.ensures
    (then _ c.in_ok-lambda.ensures
    (then _ (otherwise _ _ _ _ c.in_ok-all.ensures c.in_ok-neighbourhoods.ensures)
    (then _ c.in_ok-cut.ensures (then _ c.in_ok-tenure.ensures (stops _ _ c.in_err-known.ensures c.from_residual-in_err-known.ensures.1)))))

pub returns : goal.returns
unfolding search_row
returns c = then _ c.in_ok-choices.ensures
    (then _ c.in_ok-lambda.ensures
    (then _ (otherwise _ _ _ _ c.in_ok-all.ensures c.in_ok-neighbourhoods.ensures)
    (then _ c.in_ok-cut.ensures (then _ c.in_ok-tenure.ensures (then _ c.in_ok-known.ensures (gives (search rules)))))))
