use Rattle.std.proofs.Common.{refl, rules}
use Rattle.vr_json.proofs.Steps.{then, gives, asked}
use Rattle.vr_given.specs.Givens.{route_visit}
use Rattle.vr_given.proofs.given.RouteVisitReader.read.Goals as goal

pub returns : goal.returns
unfolding route_visit
returns c = then _ c.in_ok-node.ensures (then _ (asked _ (search rules) refl c.in_ok-refuse_if.ensures) (gives (search rules)))
