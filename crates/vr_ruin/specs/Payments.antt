-- What open routes cost, as numbers that code adds up.
use Rattle.std.specs.Prelude.{◌*◌, ◌^◌, ℤ, pos, neg_ℤ, ◌≤ℤ◌}

-- a cost of open routes, or a part of it, far from the ends of 64 bits. It is at most half of what an i64 holds, and a
-- little more
pub record IsCost (x : ℤ) : Type 0 where
  pub low : neg_ℤ (pos (2 ^ 60)) ≤ℤ x
  pub high : x ≤ℤ pos (5 * 10 ^ 18)

-- what routes cost more than others
pub record IsPrice (x : ℤ) : Type 0 where
  pub low : neg_ℤ (pos (7 * 10 ^ 18)) ≤ℤ x
  pub high : x ≤ℤ pos (7 * 10 ^ 18)
