use Rattle.vr_reach.proofs.LineParts.{hop_between_stops}
use Rattle.vr_reach.proofs.stops.hop_from.Goals as goal

pub returns-clause-exact : goal.returns-clause-exact
returns-clause-exact c =
    let of = c.args.of.now in
    hop_between_stops of.closed.model.now of.d of.v of.list.now c.args.k c.node_at-origin.result c.node_at-target.result
    c.hop.result c.requires c.node_at-origin.ensures.node c.node_at-target.ensures.node c.hop.ensures.exact
