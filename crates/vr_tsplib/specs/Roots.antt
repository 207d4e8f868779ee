-- Square roots, rounded to the nearest whole number.
use Rattle.std.specs.Prelude.{ℕ, zero, suc, ◌+◌, ◌-◌, ◌*◌, ◌≤◌, ◌<◌, nat_lt, nat_le, if◌then◌else◌}

-- the root of a number, rounded down: the greatest r with r * r at most n
unfoldable pub floor_root : ℕ → ℕ
floor_root zero = 0
floor_root (suc n) =
    let r = floor_root n in if nat_le ((r + 1) * (r + 1)) (suc n) then r + 1 else r

-- r is the root of n, rounded down
pub record IsFloorRoot (n r : ℕ) : Type 0 where
  pub square_low : r * r ≤ n
  pub next_high : n < (r + 1) * (r + 1)

-- the whole number next to the root of n, if r is that root, rounded down
abbrev pub rounded : ℕ → ℕ → ℕ
rounded n r = if nat_lt r (n - r * r) then r + 1 else r

-- the whole number next to the root of a number
unfoldable pub nearest : ℕ → ℕ
nearest n = rounded n (floor_root n)
