use Rattle.std.proofs.Common.{◌≡◌, ◌<◌, ℕ, length}
use Rattle.std.specs.Prelude.{slice_index_or}
use Rattle.vr_first_insert.specs.declared.known_best.KnownItem.TheVariants.{Nothing}
use Rattle.vr_first_insert.proofs.known_items.clear.Given as goal

-- nothing is found of the items so far
abbrev pub invariant-loop-i : goal.invariant-loop-i
invariant-loop-i l = record {
  many : length l.found ≡ length l.initial.found;
  done : (k : ℕ) → k < l.i → slice_index_or l.found k (record { known = Nothing; since = 0 }) ≡ record { known = Nothing; since = 0 };
}
