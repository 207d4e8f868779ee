use Rattle.std.proofs.Common.{◌≡◌, ◌<◌, ℕ, length}
use Rattle.std.specs.Prelude.{slice_index}
use Rattle.vr_tabu.specs.Parts.{IsPlaced}
use Rattle.vr_tabu.proofs.written_list.place_each.Given as goal

-- the places of the visits so far are kept
abbrev pub invariant-loop-k : goal.invariant-loop-k
invariant-loop-k l = record {
  long : length l.places ≡ length l.fn.places;
  placed : (j : ℕ) → j < l.k → IsPlaced l.list l.places (slice_index l.list j);
}
