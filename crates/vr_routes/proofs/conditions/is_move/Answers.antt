use Rattle.std.proofs.Common.{◌∙◌, sym, ap}
use Rattle.vr_model.specs.moves.MoveTests.{is_move}
use Rattle.vr_routes.proofs.conditions.is_move.Goals as goal

pub returns-in-TwoOpt : goal.returns-in-TwoOpt
returns-in-TwoOpt c = c.is_two_opt.ensures c.args.model.now ∙ sym (ap (is_move c.args.model.now c.args.routes.now.lists) c.in-TwoOpt.is)

pub returns-in-OrOpt : goal.returns-in-OrOpt
returns-in-OrOpt c = c.is_or_opt.ensures c.args.model.now ∙ sym (ap (is_move c.args.model.now c.args.routes.now.lists) c.in-OrOpt.is)

pub returns-in-Relocate : goal.returns-in-Relocate
returns-in-Relocate c = c.is_relocate.ensures c.args.model.now ∙ sym (ap (is_move c.args.model.now c.args.routes.now.lists) c.in-Relocate.is)

pub returns-in-Exchange : goal.returns-in-Exchange
returns-in-Exchange c = c.is_exchange.ensures c.args.model.now ∙ sym (ap (is_move c.args.model.now c.args.routes.now.lists) c.in-Exchange.is)

pub returns-in-Cross : goal.returns-in-Cross
returns-in-Cross c = c.is_cross.ensures c.args.model.now ∙ sym (ap (is_move c.args.model.now c.args.routes.now.lists) c.in-Cross.is)

pub returns-in-MakeInactive : goal.returns-in-MakeInactive
returns-in-MakeInactive c = c.is_make_inactive.ensures c.args.model.now ∙ sym (ap (is_move c.args.model.now c.args.routes.now.lists) c.in-MakeInactive.is)
