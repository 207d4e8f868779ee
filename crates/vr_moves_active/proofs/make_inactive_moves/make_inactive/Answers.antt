use Rattle.vr_moves_active.proofs.make_inactive_moves.make_inactive.Goals as goal

pub returns : goal.returns
returns c model = c.of_each_list.ensures
