use Rattle.std.proofs.Common.{sym}
use Rattle.vr_known.proofs.Counts.{many_all}
use Rattle.vr_moves_active.proofs.make_inactive_moves.PlacesNumbered.many.Goals as goal

pub returns : goal.returns
returns c = sym (many_all c.args.from c.args.to)
