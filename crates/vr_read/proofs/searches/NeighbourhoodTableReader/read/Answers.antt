use Rattle.std.proofs.Common.{refl, rules}
use Rattle.vr_json.proofs.Steps.{then, stops, gives, asked}
use Rattle.vr_read.specs.Searches.{neighbourhood}
use Rattle.vr_read.proofs.searches.NeighbourhoodTableReader.read.Goals as goal

pub returns-in_err-chosen : goal.returns-in_err-chosen
unfolding neighbourhood
returns-in_err-chosen c = stops _ _ c.in_err-chosen.ensures c.from_residual.ensures.1

pub returns-in_err-refuse_if : goal.returns-in_err-refuse_if
unfolding neighbourhood
returns-in_err-refuse_if c =
    then _ c.in_ok-chosen.ensures (stops _ _ (asked _ c.has_neighbourhood.ensures refl c.in_err-refuse_if.ensures) c.from_residual-in_err-refuse_if.ensures.1)

pub returns : goal.returns
unfolding neighbourhood
returns c = then _ c.in_ok-chosen.ensures (then _ (asked _ c.has_neighbourhood.ensures refl c.in_ok-refuse_if.ensures) (gives (search rules)))
