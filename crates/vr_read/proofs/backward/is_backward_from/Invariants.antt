use Rattle.std.proofs.Common.{◌≡◌}
use Rattle.std.specs.List.{list_any}
use Rattle.vr_model.specs.tables.Numbers.{from_to}
use Rattle.vr_read.specs.Backward.{is_backward_from, is_backward_arc}
use Rattle.vr_read.proofs.backward.is_backward_from.Given as goal

abbrev pub invariant-loop-j : goal.invariant-loop-j
invariant-loop-j l = list_any (is_backward_arc l.of.model.now l.evaluator l.i) (from_to l.j l.of.model.now.nodes)
    ≡ is_backward_from l.of.model.now l.evaluator l.i
