use Rattle.std.proofs.Common.{rules}
use Rattle.vr_json.proofs.Steps.{then, gives}
use Rattle.vr_printed.specs.Tables.{printed_route}
use Rattle.vr_printed.proofs.tables.RouteTableTable.read.Goals as goal

pub returns : goal.returns
unfolding printed_route
returns c = then _ c.in_ok-plans.ensures (then _ c.in_ok-nodes.ensures (then _ c.in_ok-vehicle.ensures (then _ c.in_ok-known.ensures (gives (search rules)))))
