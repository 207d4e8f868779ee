use Rattle.vr_reach.specs.Lists.{is_feasible_list}
use Rattle.vr_pathfilters.proofs.PartTours.{HoldsSoFar}
use Rattle.vr_pathfilters.proofs.loads.all_carried.Given as goal

-- the parts before place k pass
abbrev pub invariant-loop-k : goal.invariant-loop-k
invariant-loop-k l = HoldsSoFar (is_feasible_list l.model l.d) l.routes.lists l.change l.k
