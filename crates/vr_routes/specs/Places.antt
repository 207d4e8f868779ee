-- Places of lists at which a change takes nodes out and puts others in.
use Rattle.std.specs.Prelude.{◌≡◌, ◌≢◌, ℕ, ◌+◌, ◌<◌, ◌≤◌, List, length}
use Rattle.vr_model.specs.routes.Routes.{route}

-- the list of v has this many nodes from a place on
pub record IsStretch (lists : List (List ℕ)) (v from nodes : ℕ) : Type 0 where
  pub vehicle : v < length lists
  pub within : from + nodes ≤ length (route lists v)

-- the list of v has two places, of which lo comes first
pub record AreTwoPlaces (lists : List (List ℕ)) (v lo hi : ℕ) : Type 0 where
  pub vehicle : v < length lists
  pub order : lo < hi
  pub place : hi < length (route lists v)

-- the list of v has two gaps, before place s and, there or further on, before place t
pub record AreTwoGaps (lists : List (List ℕ)) (v s t : ℕ) : Type 0 where
  pub vehicle : v < length lists
  pub order : s ≤ t
  pub gap : t ≤ length (route lists v)

-- the list of v has two neighbouring stretches: from place `from` up to place `mid`, and from there up to place `to`
pub record AreNeighbours (lists : List (List ℕ)) (v from mid to : ℕ) : Type 0 where
  pub vehicle : v < length lists
  pub order : from ≤ mid
  pub next : mid ≤ to
  pub within : to ≤ length (route lists v)

-- two lists are cut: that of v before place a, and that of w before place b, not both before all nodes
pub record AreCuts (lists : List (List ℕ)) (v a w b : ℕ) : Type 0 where
  pub vehicle : v < length lists
  pub other : w < length lists
  pub apart : v ≢ w
  pub gap : a ≤ length (route lists v)
  pub other_gap : b ≤ length (route lists w)
  pub some : a ≡ 0 → b ≢ 0

-- two nodes of lists, of which the first comes first if they are in one list
pub record AreTwoNodes (lists : List (List ℕ)) (v a w b : ℕ) : Type 0 where
  pub vehicle : v < length lists
  pub other : w < length lists
  pub place : a < length (route lists v)
  pub other_place : b < length (route lists w)
  pub behind : v ≡ w → a < b

-- a node of one list, and a gap of another one
pub record AreNodeAndGap (lists : List (List ℕ)) (v a w t : ℕ) : Type 0 where
  pub vehicle : v < length lists
  pub other : w < length lists
  pub apart : v ≢ w
  pub place : a < length (route lists v)
  pub gap : t ≤ length (route lists w)
