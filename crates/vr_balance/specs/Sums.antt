-- Sums along paths of nodes.
use Rattle.std.specs.Prelude.{◌≡◌, ℕ, suc, ◌<◌, ◌≤◌, List, [], ◌∷◌, ◌++◌, length, take, ℤ, pos, ◌+ℤ◌, ◌*◌, ◌≤ℤ◌}
use Rattle.vr_model.specs.tables.Numbers.{number_at}
use Rattle.vr_model.specs.tables.Tables.{vehicle_at}
use Rattle.vr_model.specs.declared.records.Model.{Model}

-- the nodes of the line of vehicle v with a list, after its start
abbrev pub line_nodes : Model → ℕ → List ℕ → List ℕ
line_nodes model v list = list ++ (vehicle_at model v).end ∷ []

-- what a measure gives of the arcs from a node through others in turn, added up
abbrev pub path_sum : (ℕ → ℕ → ℤ) → ℕ → List ℕ → ℤ
path_sum f at [] = pos 0
path_sum f at (x ∷ xs) = f at x +ℤ path_sum f x xs

-- the node at which a path from a node through others ends
abbrev pub last_of : ℕ → List ℕ → ℕ
last_of at [] = at
last_of at (x ∷ xs) = last_of x xs

-- a sum of this many values at most, each in 0..=2^40
pub record IsUpTo (most : ℕ) (sum : ℤ) : Type 0 where
  pub low : pos 0 ≤ℤ sum
  pub high : sum ≤ℤ pos (1099511627776 * most)

-- there are at most 1002 sums, and the sum at each place is one of as many values as there are places before it
pub record HaveRange (sums : List ℤ) : Type 0 where
  pub few : length sums ≤ 1002
  pub each : (k : ℕ) → k < length sums → IsUpTo k (number_at sums k)

-- at each of the first n + 1 nodes of the path from a first node through others, what the arcs up to it come to
pub record AreSumsTo (f : ℕ → ℕ → ℤ) (first : ℕ) (nodes : List ℕ) (n : ℕ) (sums : List ℤ) : Type 0 where
  pub many : length sums ≡ suc n
  pub each : (k : ℕ) → k ≤ n → number_at sums k ≡ path_sum f first (take k nodes)
  pub range : HaveRange sums

-- the same at each node of the path
abbrev pub AreSums : (ℕ → ℕ → ℤ) → ℕ → List ℕ → List ℤ → Type 0
AreSums f first nodes sums = AreSumsTo f first nodes (length nodes) sums
