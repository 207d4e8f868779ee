use Rattle.vr_known.proofs.MemoryLemmas.{are_apart}
use Rattle.vr_known.proofs.stamps.Stamps.change.Goals as goal

pub returns-clause-apart : goal.returns-clause-apart
returns-clause-apart c =
    are_apart c.args.closed.model.now c.args.routes.now.lists c.args.mv c.args.touched.first c.args.touched.second c.stamp.new.self c.settle.new.self
    c.stamp.ensures.first c.stamp.ensures.second c.stamp.ensures.active c.settle.ensures.fewer c.settle.ensures.earlier c.settle.ensures.settled
