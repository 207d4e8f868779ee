use Rattle.vr_model.specs.tables.Tables.{vehicle_at}
use Rattle.vr_arccosts.proofs.RestLemmas.{rest-before}
use Rattle.vr_arccosts.proofs.rests.node_before.Goals as goal

pub returns-clause-value : goal.returns-clause-value
returns-clause-value c =
    let rest = c.args.rest.now in
    rest-before rest.sound (vehicle_at rest.costs.model.now rest.costs.vehicle).start c.args.place c.if-place-eq0.false c.requires.place c.node.ensures.value
