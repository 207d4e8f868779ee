use Rattle.std.proofs.Common.{◌≡◌, ◌<◌, ℕ, true}
use Rattle.vr_model.specs.routes.Routes.{route}
use Rattle.vr_model.specs.routes.Rules.{is_route_open}
use Rattle.vr_rules.proofs.validity.are_routes_open.Given as goal

-- the vehicles so far may drive their lists
abbrev pub invariant-loop-v : goal.invariant-loop-v
invariant-loop-v l = (v : ℕ) → v < l.v → is_route_open l.of.lookups.now.closed.model.now v (route l.of.routes.now.lists v) ≡ true
