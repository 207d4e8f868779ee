use Rattle.std.proofs.Common.{◌∙◌, sym, ap}
use Rattle.vr_model.specs.moves.Moves.{moves_in}
use Rattle.vr_descent.proofs.generators.Generator.open.Goals as goal

pub returns-in-TwoOpt : goal.returns-in-TwoOpt
returns-in-TwoOpt c = c.two_opt.ensures c.args.model.now ∙ ap (moves_in c.args.model.now c.args.routes.now.lists) (sym c.in-TwoOpt.is)

pub returns-in-OrOpt : goal.returns-in-OrOpt
returns-in-OrOpt c = c.or_opt.ensures c.args.model.now ∙ ap (moves_in c.args.model.now c.args.routes.now.lists) (sym c.in-OrOpt.is)

pub returns-in-Relocate : goal.returns-in-Relocate
returns-in-Relocate c = c.relocate.ensures c.args.model.now ∙ ap (moves_in c.args.model.now c.args.routes.now.lists) (sym c.in-Relocate.is)

pub returns-in-Exchange : goal.returns-in-Exchange
returns-in-Exchange c = c.exchange.ensures c.args.model.now ∙ ap (moves_in c.args.model.now c.args.routes.now.lists) (sym c.in-Exchange.is)

pub returns-in-Cross : goal.returns-in-Cross
returns-in-Cross c = c.cross_chains.ensures c.args.model.now ∙ ap (moves_in c.args.model.now c.args.routes.now.lists) (sym c.in-Cross.is)

pub returns-in-MakeInactive : goal.returns-in-MakeInactive
returns-in-MakeInactive c = c.make_inactive.ensures c.args.model.now ∙ ap (moves_in c.args.model.now c.args.routes.now.lists) (sym c.in-MakeInactive.is)
