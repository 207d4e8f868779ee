use Rattle.std.proofs.Common.{◌++◌, arith, length-append, take}
use Rattle.std.proofs.lemmas.List.{length-take-le}
use Rattle.vr_io.proofs.EdgeLemmas.{Gave-append}
use Rattle.vr_io.proofs.whole.read_all.Goals as goal

pub returns-then-n-room-clause-too_long : goal.returns-then-n-room-clause-too_long
returns-then-n-room-clause-too_long g c = λ _. (
  c.loop-n.all.items ++ take c.in-Ok.n c.read.new.buf,
  omega (arith, length-append c.loop-n.all.items (take c.in-Ok.n c.read.new.buf), length-take-le c.in-Ok.n c.read.new.buf c.in-Ok.ensures.bound),
  Gave-append _ _ _ _ _ c.loop-n.invariant.gave c.in-Ok.ensures.gives,
)

pub returns-then-n-room-clause-front : goal.returns-then-n-room-clause-front
returns-then-n-room-clause-front g c = (
  c.loop-n.all.items ++ take c.in-Ok.n c.read.new.buf,
  Gave-append _ _ _ _ _ c.loop-n.invariant.gave c.in-Ok.ensures.gives,
)

pub returns-then-is_err-clause-front : goal.returns-then-is_err-clause-front
returns-then-is_err-clause-front g c = (
  c.loop-n.all.items ++ take c.in-Ok.n c.read.new.buf,
  Gave-append _ _ _ _ _ c.loop-n.invariant.gave c.in-Ok.ensures.gives,
)
