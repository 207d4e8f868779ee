-- Bounds of what changes add to parts of the cost.
use Rattle.std.specs.Prelude.{ℕ, ◌*◌, ℤ, pos, neg_ℤ, ◌≤ℤ◌}

-- a number no further from 0 than this many costs, of which each is 2^40 at most
pub record IsAroundCosts (most : ℕ) (x : ℤ) : Type 0 where
  pub low : neg_ℤ (pos (1099511627776 * most)) ≤ℤ x
  pub high : x ≤ℤ pos (1099511627776 * most)

-- what one changed list may add: it has eight pieces of 1000 nodes at most, and the list before it 1000 nodes
abbrev pub IsAddedByList : ℤ → Type 0
IsAddedByList = IsAroundCosts 10000

-- what a change may add, which gives two vehicles a list at most
abbrev pub IsAddedByChange : ℤ → Type 0
IsAddedByChange = IsAroundCosts 20000
