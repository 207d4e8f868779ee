use Rattle.std.proofs.Common.{◌≡◌, ◌+◌, ◌<◌, ◌≤◌, ℕ, length, drop}
use Rattle.std.specs.Prelude.{slice_index_or}
use Rattle.vr_model.specs.routes.Rules.{place_of}
use Rattle.vr_lists.proofs.places.write_places.Given as goal

-- the places from here on are marked
abbrev pub invariant-loop-place : goal.invariant-loop-place
invariant-loop-place l = record {
  within : l.place ≤ length l.list;
  one_of_each : length l.places ≡ length l.fn.places;
  each : (x d : ℕ) → x < length l.fn.places → slice_index_or l.places x d ≡ l.place + place_of (drop l.place l.list) x;
}

abbrev pub decreases-loop-place : goal.decreases-loop-place
decreases-loop-place l = l.place
