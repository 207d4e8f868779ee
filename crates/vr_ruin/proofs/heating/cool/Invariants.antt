use Rattle.std.proofs.Common.{◌≡◌, ◌-◌, ◌≤◌}
use Rattle.vr_ruin.specs.Steps.{cooled}
use Rattle.vr_ruin.proofs.heating.cool.Given as goal

abbrev pub invariant-loop-level : goal.invariant-loop-level
invariant-loop-level l = record {
  less : l.h ≤ l.heat;
  left : cooled (l.levels - l._level) l.h ≡ cooled l.levels l.heat;
}
