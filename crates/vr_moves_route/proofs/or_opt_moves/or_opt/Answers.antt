use Rattle.vr_moves_route.proofs.or_opt_moves.or_opt.Goals as goal

pub returns : goal.returns
returns c model = c.of_each_list.ensures
