use Rattle.vr_rules.specs.Placing.{AreMarks}
use Rattle.vr_rules.proofs.marks.write_marks.Given as goal

abbrev pub invariant-loop-node : goal.invariant-loop-node
invariant-loop-node l = AreMarks l.node l.routes.lists l.marks.items
