-- What a list shares with the one before.
use Rattle.std.specs.Prelude.{◌≡◌, ◌≢◌, ℕ, ◌-◌, ◌<◌, ◌≤◌, ◌+◌, List, length, take, drop, slice_index}
use Rattle.vr_reach.specs.declared.stretches.Stretch.{Stretch}

-- both lists begin with the same a nodes
pub record SharesFront (old new : List ℕ) (a : ℕ) : Type 0 where
  pub same : take a old ≡ take a new
  pub within_old : a ≤ length old
  pub within_new : a ≤ length new

-- both lists end with the same z nodes
pub record SharesBack (old new : List ℕ) (z : ℕ) : Type 0 where
  pub same : drop (length old - z) old ≡ drop (length new - z) new
  pub within_old : z ≤ length old
  pub within_new : z ≤ length new

-- both lists begin and end with nodes that they share; in the second the two parts do not overlap
pub record SharesEnds (old new : List ℕ) (shared : Stretch) : Type 0 where
  pub front : SharesFront old new shared.front
  pub back : SharesBack old new shared.back
  pub apart : shared.front + shared.back ≤ length new

-- the nodes after those that both lists share at the front differ
abbrev pub DifferAtFront : List ℕ → List ℕ → ℕ → Type 0
DifferAtFront old new a = a < length old → a < length new → slice_index old a ≢ slice_index new a

-- the nodes before those that both lists share at the back differ, unless they are among the first a
abbrev pub DifferAtBack : List ℕ → List ℕ → ℕ → ℕ → Type 0
DifferAtBack old new a z = a + z < length old → a + z < length new
    → slice_index old (length old - 1 - z) ≢ slice_index new (length new - 1 - z)

-- the stretch between what both lists share: as many nodes at the front as they can, and then as many at the back
pub record IsStretchBetween (old new : List ℕ) (stretch : Stretch) : Type 0 where
  pub front : SharesFront old new stretch.front
  pub front_most : DifferAtFront old new stretch.front
  pub back : SharesBack old new stretch.back
  pub back_most : DifferAtBack old new stretch.front stretch.back
  pub apart : stretch.front + stretch.back ≤ length new
  pub apart_old : stretch.front + stretch.back ≤ length old
