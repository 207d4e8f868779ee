use Rattle.std.proofs.Common.{arith}
use Rattle.vr_tabu.proofs.BeforeLemmas.{before_later}
use Rattle.vr_tabu.proofs.written_list.node_before_place.Goals as goal

pub returns : goal.returns
returns c = before_later c.args.origin c.args.list.now c.args.place c.requires.place c.requires.distinct (omega (arith, c.if-place-eq0.false))
