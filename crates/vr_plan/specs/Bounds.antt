-- Bounds of numbers.
use Rattle.std.specs.Prelude.{ℕ, ℤ, pos, neg_ℤ, ◌≤ℤ◌}

-- a number lies in -most..=most
pub record IsAround (most : ℕ) (x : ℤ) : Type 0 where
  pub low : neg_ℤ (pos most) ≤ℤ x
  pub high : x ≤ℤ pos most

-- a cumul costs no more: the greatest coefficient times the horizon, rounded up
abbrev pub cumul_cost : ℕ
cumul_cost = 687200000000000
