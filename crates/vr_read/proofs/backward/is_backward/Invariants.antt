use Rattle.std.proofs.Common.{◌≡◌}
use Rattle.std.specs.List.{list_any}
use Rattle.vr_model.specs.tables.Numbers.{from_to}
use Rattle.vr_read.specs.Backward.{is_backward, is_backward_from}
use Rattle.vr_read.proofs.backward.is_backward.Given as goal

abbrev pub invariant-loop-i : goal.invariant-loop-i
invariant-loop-i l = list_any (is_backward_from l.of.model.now l.evaluator) (from_to l.i l.of.model.now.nodes) ≡ is_backward l.of.model.now l.evaluator
