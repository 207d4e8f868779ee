use Rattle.vr_moves_route.proofs.two_opt_moves.two_opt.Goals as goal

pub returns : goal.returns
returns c model = c.of_each_list.ensures
