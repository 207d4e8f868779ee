-- Bounds of sums of arc costs.
use Rattle.std.specs.Prelude.{ℕ, ◌+◌, ◌<◌, List, length, ℤ}
use Rattle.vr_balance.specs.Sums.{IsUpTo}

-- what the arcs of a chain come to: it has 1000 nodes at most
abbrev pub IsChainCost : ℤ → Type 0
IsChainCost = IsUpTo 1000

-- a piece adds 1001 arcs at most: that to its first node, and those of a chain
abbrev pub IsPieceFurther : ℤ → ℤ → Type 0
IsPieceFurther before after = (n : ℕ) → IsUpTo n before → IsUpTo (n + 1001) after

-- what the arcs along six pieces at most come to
abbrev pub IsPathCost : ℤ → Type 0
IsPathCost = IsUpTo 6006

-- what they come to with the arc to the stop after them
abbrev pub IsGapCost : ℤ → Type 0
IsGapCost = IsUpTo 6007

-- sums have room for one stop more of a line, which has 1002: the ends, and 1000 nodes at most
abbrev pub HasRoomForStop : List ℤ → Type 0
HasRoomForStop sums = length sums < 1002
