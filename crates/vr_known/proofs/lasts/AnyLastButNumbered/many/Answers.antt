use Rattle.std.proofs.Common.{sym}
use Rattle.vr_known.proofs.Counts.{many_above, many_below, many_but_one}
use Rattle.vr_known.proofs.lasts.AnyLastButNumbered.many.Goals as goal
use Rattle.vr_known.proofs.lasts.AnyLastButNumbered.many.Goals.{else-from-self-via-then-from-self+else-self-to, else-from-self-via-else-from-self}

pub returns-then-self-to : goal.returns-then-self-to
returns-then-self-to g c = sym (many_but_one c.args.self.now.but c.args.from c.args.to c.if-from-self.true c.if-self-to.true)

pub returns : goal.returns
returns g c = elim c.else-from-self.branch [
  | else-from-self-via-then-from-self+else-self-to w ↦ sym (many_below c.args.self.now.but c.args.from c.args.to w.if-self-to.false)
  | else-from-self-via-else-from-self w ↦ sym (many_above c.args.self.now.but c.args.from c.args.to w.if-from-self.false)
]
