-- The places of numbers in one list.
use Rattle.std.specs.Prelude.{◌≡◌, ℕ, ◌<◌, List, length, slice_index_or}
use Rattle.vr_model.specs.routes.Rules.{place_of}

-- for each of the first numbers its place in a list, the length of the list if it is absent
pub record ArePlaces (numbers : ℕ) (list places : List ℕ) : Type 0 where
  pub one_of_each : length places ≡ numbers
  pub each : (x d : ℕ) → x < numbers → slice_index_or places x d ≡ place_of list x
