use Rattle.std.proofs.Common.{◌≡◌, ◌-◌, length}
use Rattle.std.specs.List.{range_with_len}
use Rattle.vr_model.specs.tables.Numbers.{each}
use Rattle.vr_model.specs.routes.Routes.{arcs_of, route, used_arcs}
use Rattle.vr_guided.specs.Counts.{counted}
use Rattle.vr_guided.specs.Worths.{greatest_worth, worth_of, worthless}
use Rattle.vr_guided.proofs.penalties.Penalties.greatest.Given as goal

-- the vehicles so far are counted, and those from here on are left
abbrev pub invariant-loop-vehicle : goal.invariant-loop-vehicle
invariant-loop-vehicle l =
    greatest_worth (worth_of l.closed.model.now (counted l.self)) l.best
    (each (range_with_len l.vehicle (length l.closed.model.now.vehicles - l.vehicle)) (λ v. arcs_of l.closed.model.now v (route l.routes.lists v)))
    ≡ greatest_worth (worth_of l.closed.model.now (counted l.self)) worthless (used_arcs l.closed.model.now l.routes.lists)
