use Rattle.vr_moves_route.proofs.or_opt_moves.BeginsFamily.open.Goals as goal

pub returns : goal.returns
returns c = c.new.ensures
