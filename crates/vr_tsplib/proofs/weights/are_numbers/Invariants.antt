use Rattle.std.proofs.Common.{◌≡◌, length}
use Rattle.vr_tsplib.specs.Rows.{are_numbers}
use Rattle.vr_tsplib.specs.Texts.{words}
use Rattle.vr_tsplib.proofs.weights.are_numbers.Given as goal

abbrev pub invariant-loop-word : goal.invariant-loop-word
invariant-loop-word l = are_numbers l.left (words l.rest) ≡ are_numbers l.initial.left (words l.initial.rest)

abbrev pub decreases-loop-word : goal.decreases-loop-word
decreases-loop-word l = length l.rest
