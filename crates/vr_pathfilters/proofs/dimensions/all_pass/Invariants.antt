use Rattle.std.proofs.Common.{◌+◌, ◌≤◌, sum_by, take}
use Rattle.vr_model.specs.schedules.Weights.{list_weight}
use Rattle.vr_reach.specs.Lists.{is_feasible_list}
use Rattle.vr_reach.specs.Tries.{list_tries}
use Rattle.vr_pathfilters.proofs.PartTours.{HoldsSoFar}
use Rattle.vr_pathfilters.proofs.PartWeights.{told_after}
use Rattle.vr_pathfilters.proofs.dimensions.all_pass.Given as goal

-- the parts before place k pass
abbrev pub invariant-loop-k : goal.invariant-loop-k
invariant-loop-k g l = record {
  passed : HoldsSoFar (is_feasible_list l.at.closed.model.now l.at.d) l.at.routes.now.lists l.change l.k;
  count : l.steps
      ≤ l.fn.steps + sum_by (λ p. told_after (list_weight l.at.closed.model.now l.at.d) l.at.routes.now.lists l.change p.vehicle) (take l.k l.change);
  tries : l.tries
      ≤ l.fn.tries + sum_by (λ p. told_after (list_tries l.at.closed.model.now l.at.d) l.at.routes.now.lists l.change p.vehicle) (take l.k l.change);
}
