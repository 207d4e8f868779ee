use Rattle.std.proofs.Common.{sym}
use Rattle.vr_known.proofs.Counts.{many_all}
use Rattle.vr_known.proofs.lasts.AnyLastNumbered.many.Goals as goal

pub returns : goal.returns
returns g c = sym (many_all c.args.from c.args.to)
