use Rattle.std.proofs.Common.{take}
use Rattle.vr_model.specs.schedules.Weights.{weight}
use Rattle.vr_reach.specs.Lists.{is_feasible_list}
use Rattle.vr_pathfilters.specs.Known.{StandsAt}
use Rattle.vr_pathfilters.specs.Lists.{holds_of_each}
use Rattle.vr_judge.proofs.DimensionLemmas.{AreOf}
use Rattle.vr_judge.proofs.filters.filters_of_dimensions.Given as goal

abbrev pub invariant-loop-k : goal.invariant-loop-k
invariant-loop-k l = AreOf
    (λ f lists. holds_of_each (is_feasible_list f.lookups.closed.model.now f.d) lists)
    (λ f before later. weight f.lookups.closed.model.now f.d before later)
    (λ f. StandsAt f.lookups.closed.model.now f.d f.loads f.known.items l.routes)
    (λ d lists. holds_of_each (is_feasible_list l.lookups.closed.model.now d) lists)
    (λ d before later. weight l.lookups.closed.model.now d before later)
    (take l.k l.order.items) l.filters.items
