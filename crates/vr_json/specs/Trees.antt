-- Trees that are printed.
use Rattle.std.specs.Prelude.{ℕ, List, [], ◌∷◌, ◌++◌, map}
use Rattle.serde_json.specs.Data.{Data, Members, number, array, unsigned, no_items, item}
use Rattle.serde_json.specs.View.{items_of, members_view}
use Rattle.serde_json.specs.Written.{compact_text}
use Rattle.vr_json.specs.declared.tree.Tree.{Tree}

-- the keys and values that were put into a tree
abbrev pub members_put : Tree → Members
members_put tree = members_view tree.members.entries

-- a tree as one line: its compact text and a line feed
abbrev pub text_line : Data → List ℕ
text_line d = compact_text d ++ 10 ∷ []

-- a natural number
abbrev pub count : ℕ → Data
count n = number (unsigned n)

-- an array of what f gives of each
abbrev pub listed : {A : Type 0} → (A → Data) → List A → Data
listed f xs = array (items_of (map f xs))

-- an array of one entry
abbrev pub one : Data → Data
one d = array (item d no_items)
