use Rattle.std.proofs.Common.{◌+◌, sym, subst}
use Rattle.vr_rules.specs.Placing.{AreMarks}
use Rattle.vr_rules.proofs.PlacingLemmas.{AreMarks-more}
use Rattle.vr_rules.proofs.marks.write_marks.Goals as goal

pub loop-node-preserved : goal.loop-node-preserved
loop-node-preserved c =
    subst (AreMarks (c.loop-node.node + 1) c.args.routes.now.lists) (sym c.in_ok-push.ensures.items)
    (AreMarks-more c.loop-node.node c.args.routes.now.lists c.loop-node.marks.items c.is_active.result c.loop-node.invariant c.is_active.ensures)
