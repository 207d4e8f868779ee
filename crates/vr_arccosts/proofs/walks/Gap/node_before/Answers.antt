use Rattle.std.proofs.Common.{◌∙◌, sym, arith}
use Rattle.vr_model.specs.tables.Tables.{vehicle_at}
use Rattle.vr_model.specs.routes.Routes.{route}
use Rattle.vr_arccosts.proofs.PathLemmas.{last-kept}
use Rattle.vr_arccosts.proofs.walks.Gap.node_before.Goals as goal

pub returns-clause-value : goal.returns-clause-value
returns-clause-value c =
    let some = c.if-self-eq0.false in
    c.node_at.ensures ∙ sym (last-kept (vehicle_at c.args.self.now.of.costs.now.model.now c.args.self.now.of.costs.now.vehicle).start
    (route c.args.self.now.of.routes.now.lists c.args.self.now.of.costs.now.vehicle) c.args.self.now.front (omega (arith, some))
    (let order = c.args.self.now.order in let place = c.args.self.now.place in omega (arith, order, place)))
