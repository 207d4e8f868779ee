use Rattle.std.proofs.Common.{◌+◌, ◌≤◌}
use Rattle.vr_steps.specs.Levels.{AreLevels}
use Rattle.vr_steps.specs.Reached.{AreReached}
use Rattle.vr_reach.specs.Counts.{steps_between}
use Rattle.vr_reach.specs.Legs.{line_of_leg}
use Rattle.vr_reach.proofs.walking.walk_by_sets.Given as goal

-- the walk stands at stop k; what it counted and what is left are within the whole
abbrev pub invariant-loop-k : goal.invariant-loop-k
invariant-loop-k g l = record {
  within : l.k ≤ l.leg.last;
  form : AreLevels l.leg.stops.ends.now.breaks l.walk;
  reached : AreReached (line_of_leg l.leg) l.k l.walk;
  count : l.steps + steps_between (line_of_leg l.leg) l.k l.leg.last ≤ l.fn.steps + steps_between (line_of_leg l.leg) l.leg.begin l.leg.last;
}
