use Rattle.std.proofs.Common.{◌≡◌, length}
use Rattle.std.specs.List.{list_any}
use Rattle.vr_model.specs.tables.Numbers.{below, from_to}
use Rattle.vr_read.specs.Backward.{is_used_backward}
use Rattle.vr_read.proofs.backward.has_backward_vehicle.Given as goal

abbrev pub invariant-loop-k : goal.invariant-loop-k
invariant-loop-k l = list_any (is_used_backward l.of.model.now l.dimension) (from_to l.k (length l.dimension.evaluators))
    ≡ list_any (is_used_backward l.of.model.now l.dimension) (below (length l.dimension.evaluators))
