use Rattle.std.proofs.Common.{◌≡◌, ◌-◌, length}
use Rattle.std.specs.List.{list_any, range_with_len}
use Rattle.vr_model.specs.tables.Numbers.{each}
use Rattle.vr_model.specs.routes.Routes.{arcs_of, route}
use Rattle.vr_model.specs.search.GuidedSearches.{has_costly_arc}
use Rattle.vr_guided.specs.Guides.{is_costly}
use Rattle.vr_guided.proofs.costly.has_costly_arc.Given as goal

-- no arc of the vehicles so far is costly, and those of the others decide
abbrev pub invariant-loop-vehicle : goal.invariant-loop-vehicle
invariant-loop-vehicle l = list_any (is_costly l.closed.model.now)
    (each (range_with_len l.vehicle (length l.closed.model.now.vehicles - l.vehicle)) (λ v. arcs_of l.closed.model.now v (route l.routes.lists v)))
    ≡ has_costly_arc l.closed.model.now l.routes.lists
