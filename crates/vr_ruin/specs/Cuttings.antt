-- A ruin as code makes it.
use Rattle.std.specs.Prelude.{ℕ, List}
use Rattle.rand_pcg.specs.Lcg.{Lcg}
use Rattle.vr_strings.specs.Strings.{Ruined}

-- the state of a ruin by its parts
abbrev pub ruined_of : List (List ℕ) → List ℕ → Lcg → Ruined
ruined_of lists cut words = record { lists = lists; cut = cut; words = words }
