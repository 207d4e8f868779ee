-- Numbers as they are printed.
use Rattle.std.specs.Prelude.{ℕ, ℤ, List, map}
use Rattle.serde_json.specs.Data.{Data, number, array}
use Rattle.serde_json.specs.Find.{of_integer}
use Rattle.serde_json.specs.View.{items_of}
use Rattle.vr_json.specs.Trees.{count}

-- a whole number
abbrev pub whole : ℤ → Data
whole z = number (of_integer z)

-- natural numbers
abbrev pub counts : List ℕ → Data
counts numbers = array (items_of (map count numbers))

-- whole numbers
abbrev pub wholes : List ℤ → Data
wholes numbers = array (items_of (map whole numbers))
