use Rattle.std.proofs.Common.{◌≡◌, ℕ, [], ◌<◌, length}
use Rattle.std.specs.Prelude.{slice_index_or}
use Rattle.vr_ruin.specs.declared.known.KnownRoute.{KnownRoute}
use Rattle.vr_ruin.proofs.trial.known_routes.Given as goal

-- the routes so far are empty
abbrev pub invariant-loop-v : goal.invariant-loop-v
invariant-loop-v l = record {
  long : length l.routes.items ≡ l._v;
  none : (v : ℕ) (other : KnownRoute) → v < length l.routes.items → (slice_index_or l.routes.items v other).nodes ≡ [];
  rows : (v : ℕ) (other : KnownRoute) → v < length l.routes.items → length (slice_index_or l.routes.items v other).rows.items ≡ l.dimensions;
}
