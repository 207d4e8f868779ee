use Rattle.std.proofs.Common.{◌≡◌, ◌+◌, ◌-◌, ◌<◌, ◌≤◌, ℕ, length, ℤ}
use Rattle.std.specs.Prelude.{IsTrue, ◌↔◌}
use Rattle.vr_spans.specs.Runs.{in_run}
use Rattle.vr_reach.specs.Alone.{IsLedToWithoutBreaks}
use Rattle.vr_reach.specs.Counts.{steps_between}
use Rattle.vr_reach.specs.Lists.{node_at_stop}
use Rattle.vr_reach.specs.RunWalks.{line_along}
use Rattle.vr_reach.specs.Singles.{IsOnlyRun, IsReachedRun}
use Rattle.vr_steps.specs.Levels.{level_at}
use Rattle.vr_steps.specs.CumulRuns.{IsCumulRun}
use Rattle.vr_reach.proofs.single.carry_run.Given as goal

-- the run is reached at stop k; what was counted and what is left are within the whole
abbrev pub invariant-loop-k : goal.invariant-loop-k
invariant-loop-k g l = record {
  begun : l.walk.begin ≤ l.k;
  within : l.k ≤ l.walk.last;
  node : l.here.node ≡ node_at_stop l.walk.line.of.closed.model.now l.walk.line.of.v l.walk.line.of.list.now l.k;
  below : l.here.node < l.walk.line.of.closed.model.now.nodes;
  cumuls : IsCumulRun l.here.run;
  reached : (b : ℕ) → b ≤ length (line_along l.walk).breaks
      → IsOnlyRun (level_at l.walk.from.now b) l.fn.from → IsReachedRun (line_along l.walk) l.k b l.here.run;
  led : (y : ℤ) → IsTrue (in_run l.here.run y) ↔ IsLedToWithoutBreaks (line_along l.walk) (in_run l.fn.from) l.walk.begin (l.k - l.walk.begin) y;
  count : IsOnlyRun (level_at l.walk.from.now 0) l.fn.from
      → l.steps + steps_between (line_along l.walk) l.k l.walk.last ≤ l.fn.steps + steps_between (line_along l.walk) l.walk.begin l.walk.last;
  arcs : l.steps + l.walk.begin ≤ l.fn.steps + l.k;
}
