use Rattle.std.proofs.Common.{◌≡◌, ◌≤◌, ◌-◌, length, drop}
use Rattle.vr_tsplib.specs.Texts.{words}
use Rattle.vr_tsplib.proofs.texts.skip_blanks.Given as goal

abbrev pub invariant-loop-k : goal.invariant-loop-k
invariant-loop-k l = record {
  so_far : words (drop l.k l.text) ≡ words l.text;
  in_range : l.k ≤ length l.text;
}

abbrev pub decreases-loop-k : goal.decreases-loop-k
decreases-loop-k l = length l.text - l.k
