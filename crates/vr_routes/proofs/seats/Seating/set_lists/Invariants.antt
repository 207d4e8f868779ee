use Rattle.std.proofs.Common.{◌≡◌, ◌<◌, ℕ, length}
use Rattle.vr_model.specs.routes.Routes.{route}
use Rattle.vr_routes.specs.Seats.{IsSameOrEmpty}
use Rattle.vr_routes.proofs.seats.Seating.set_lists.Given as goal

-- the lists so far are those that are wanted, and each other one is too, or empty
abbrev pub invariant-loop-v : goal.invariant-loop-v
invariant-loop-v l = record {
  nodes : l.self.nodes ≡ l.fn.self.nodes;
  many : length l.self.lists ≡ length l.fn.self.lists;
  done : (w : ℕ) → w < l.v → route l.self.lists w ≡ route l.lists w;
  some : (w : ℕ) → w < length l.lists → IsSameOrEmpty (route l.lists w) (route l.self.lists w);
}
