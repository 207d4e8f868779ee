-- A list that keeps the front and the end of another one.
use Rattle.std.specs.Prelude.{ℕ, ◌≤◌, List, ◌++◌, take, drop}

-- a list with other nodes in the place of those from place `front` on, up to the one before place `behind`
abbrev pub spliced : List ℕ → ℕ → ℕ → List ℕ → List ℕ
spliced old front behind middle = take front old ++ (middle ++ drop behind old)

-- two gaps of a list of n nodes, in order, which may be one
pub record AreSeams (n front behind : ℕ) : Type 0 where
  pub order : front ≤ behind
  pub high : behind ≤ n
