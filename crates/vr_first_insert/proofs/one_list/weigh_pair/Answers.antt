use Rattle.std.proofs.Common.{◌∙◌, ap, sym}
use Rattle.vr_model.specs.routes.Rules.{is_route_open}
use Rattle.vr_rules.specs.Placing.{improves}
use Rattle.vr_rules.proofs.LazyLeast.{untested}
use Rattle.vr_first_insert.specs.declared.choice.InsertionChoice.{InsertionChoice}
use Rattle.vr_first_insert.specs.Placings.{key_of, placed}
use Rattle.vr_first_insert.specs.VehicleLists.{pair_before}
use Rattle.vr_first_insert.proofs.one_list.weigh_pair.Goals as goal

pub returns-then-not-improves-clause-best : goal.returns-then-not-improves-clause-best
returns-then-not-improves-clause-best c =
    let choice : InsertionChoice = pair_before c.args.pair.now c.args.s c.args.t in
    untested key_of c.args.best choice
    (is_route_open c.args.pair.now.list.lookups.now.closed.model.now choice.vehicle (placed c.args.pair.now.list.nodes.now choice.placing))
    (sym (ap (improves key_of c.args.best) c.pair_at-next.ensures) ∙ (sym c.improves.ensures ∙ c.if-not-improves.true))
