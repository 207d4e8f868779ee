use Rattle.vr_model.specs.tables.Tables.{vehicle_at}
use Rattle.vr_arccosts.proofs.RestLemmas.{rest-next}
use Rattle.vr_arccosts.proofs.rests.node_at.Goals as goal

pub returns-clause-value : goal.returns-clause-value
returns-clause-value c =
    let rest = c.args.rest.now in
    rest-next rest.sound (vehicle_at rest.costs.model.now rest.costs.vehicle).end c.args.place c.requires.place c.if-place-rest.false c.node.ensures.value
