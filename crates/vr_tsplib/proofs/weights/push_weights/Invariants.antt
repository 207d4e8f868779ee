use Rattle.std.proofs.Common.{◌≡◌, length}
use Rattle.vr_tsplib.specs.Rows.{weights_behind}
use Rattle.vr_tsplib.specs.Texts.{words}
use Rattle.vr_tsplib.proofs.weights.push_weights.Given as goal

abbrev pub invariant-loop-word : goal.invariant-loop-word
invariant-loop-word l = weights_behind l.weights (words l.rest) ≡ weights_behind l.initial.weights (words l.initial.rest)

abbrev pub decreases-loop-word : goal.decreases-loop-word
decreases-loop-word l = length l.rest
