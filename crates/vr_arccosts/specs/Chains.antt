-- Sums of arc costs along chains of nodes.
use Rattle.std.specs.Prelude.{ℕ, Bool, true, false, cond, List, [], ◌∷◌, reverse, slice_range, ℤ, pos}
use Rattle.vr_balance.specs.Sums.{path_sum}

-- a chain of a list, or the chain backwards
abbrev pub chain_of : Bool → List ℕ → ℕ → ℕ → List ℕ
chain_of back list f t = cond back (reverse (slice_range list f t)) (slice_range list f t)

-- the costs of the arcs between the nodes of a chain
abbrev pub chain_sum : (ℕ → ℕ → ℤ) → List ℕ → ℤ
chain_sum cost [] = pos 0
chain_sum cost (x ∷ xs) = path_sum cost x xs

-- the first of nodes, or another one if there is none
abbrev pub first_node_or : List ℕ → ℕ → ℕ
first_node_or [] other = other
first_node_or (x ∷ xs) other = x

-- the costs of arcs, or of the same arcs backwards
abbrev pub turned : Bool → (ℕ → ℕ → ℤ) → ℕ → ℕ → ℤ
turned false cost i j = cost i j
turned true cost i j = cost j i
