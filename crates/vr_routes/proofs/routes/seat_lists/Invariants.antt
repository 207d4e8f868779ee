use Rattle.std.proofs.Common.{◌≡◌, ◌<◌, ◌≤◌, ℕ, [], length}
use Rattle.vr_model.specs.routes.Routes.{route}
use Rattle.vr_routes.specs.Tours.{HaveVisits}
use Rattle.vr_routes.proofs.routes.seat_lists.Given as goal

abbrev pub invariant-loop-v : goal.invariant-loop-v
invariant-loop-v l = record {
  nodes : l.seating.nodes ≡ l.initial.seating.nodes;
  as_many : length l.seating.lists ≡ length l.initial.seating.lists;
  done : (w : ℕ) → w < l.v → route l.seating.lists w ≡ route l.lists w;
  left : (w : ℕ) → l.v ≤ w → route l.seating.lists w ≡ [];
  visits : HaveVisits l.model l.seating.lists;
}
