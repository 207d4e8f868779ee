-- Paths, as bytes.
use Rattle.std.specs.Prelude.{ℕ, List, ◌∷◌, ◌++◌, decimal}

-- the path of a field: `/` and its key, as it is
abbrev pub name_path : List ℕ → List ℕ → List ℕ
name_path path key = path ++ 47 ∷ key

-- the path of an entry of an array: `/` and its number, from 0
abbrev pub item_path : List ℕ → ℕ → List ℕ
item_path path k = path ++ 47 ∷ decimal k
