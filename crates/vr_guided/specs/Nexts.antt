-- The first of some nodes.
use Rattle.std.specs.Prelude.{◌≡◌, ℕ, List, ◌∷◌}

-- a node is the first of some nodes
pub record IsFirstOf (node : ℕ) (nodes : List ℕ) : Type 0 where
  pub others : List ℕ
  pub first : nodes ≡ node ∷ others
