use Rattle.std.proofs.Common.{◌≡◌, ◌<◌, ℕ, length}
use Rattle.std.specs.Prelude.{slice_index_or}
use Rattle.vr_model.specs.routes.Routes.{route}
use Rattle.vr_guided.specs.Counts.{counted}
use Rattle.vr_guided.specs.RouteSums.{AreRouteSums, no_route_sums}
use Rattle.vr_guided.proofs.route_sums.AllRouteSums.write.Given as goal

-- the vehicles so far have their sums
abbrev pub invariant-loop-v : goal.invariant-loop-v
invariant-loop-v l = record {
  many : length l.self ≡ length l.weights.closed.model.now.vehicles;
  each : (w : ℕ) → w < l.v
      → AreRouteSums l.weights.closed.model.now (counted l.weights.penalties.now) w (route l.routes.lists w) (slice_index_or l.self w no_route_sums);
}
