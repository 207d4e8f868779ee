use Rattle.std.proofs.Common.{◌≡◌, ◌<◌, ◌≤◌, ℕ, [], length}
use Rattle.vr_model.specs.routes.Routes.{route}
use Rattle.vr_routes.proofs.seats.Seating.assign.Given as goal

abbrev pub invariant-loop-v : goal.invariant-loop-v
invariant-loop-v l = record {
  nodes : l.self.nodes ≡ l.initial.self.nodes;
  many : length l.self.lists ≡ length l.initial.self.lists;
  done : (w : ℕ) → w < l.v → route l.self.lists w ≡ route l.other.lists w;
  left : (w : ℕ) → l.v ≤ w → route l.self.lists w ≡ [];
}
