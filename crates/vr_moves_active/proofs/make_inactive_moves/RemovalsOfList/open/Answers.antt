use Rattle.std.proofs.Common.{◌∙◌}
use Rattle.vr_model.specs.declared.neighbours.Move.TheVariants.{MakeInactive}
use Rattle.vr_known.proofs.NestLemmas.{run_all_below}
use Rattle.vr_moves_active.proofs.make_inactive_moves.RemovalsOfList.open.Goals as goal

pub returns : goal.returns
returns c = c.new.ensures.rest ∙ run_all_below (MakeInactive c.args.v) c.args.n
