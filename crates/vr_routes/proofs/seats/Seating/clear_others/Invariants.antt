use Rattle.std.proofs.Common.{◌≡◌, ◌<◌, ℕ, length}
use Rattle.vr_model.specs.routes.Routes.{route}
use Rattle.vr_routes.specs.Seats.{IsSameOrEmpty}
use Rattle.vr_routes.proofs.seats.Seating.clear_others.Given as goal

-- the lists so far are those that are wanted, or empty
abbrev pub invariant-loop-v : goal.invariant-loop-v
invariant-loop-v l = record {
  nodes : l.self.nodes ≡ l.initial.self.nodes;
  many : length l.self.lists ≡ length l.initial.self.lists;
  done : (w : ℕ) → w < l.v → IsSameOrEmpty (route l.lists w) (route l.self.lists w);
}
