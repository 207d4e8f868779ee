use Rattle.std.proofs.Common.{◌≡◌, ◌<◌, ℕ, length}
use Rattle.std.specs.Prelude.{slice_index_or}
use Rattle.vr_model.specs.routes.Routes.{route}
use Rattle.vr_bounds.specs.Kept.{no_puts, IsPutsOf}
use Rattle.vr_bounds.proofs.bounded.puts_of.Given as goal

abbrev pub invariant-loop-v : goal.invariant-loop-v
invariant-loop-v l = record {
  many : length l.puts.items ≡ l.v;
  puts : (v : ℕ) → v < l.v → IsPutsOf l.closed.model.now v (route l.routes.lists v) (slice_index_or l.puts.items v no_puts);
}
