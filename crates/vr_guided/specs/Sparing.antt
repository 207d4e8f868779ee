-- What a round leaves as it is.
use Rattle.std.specs.Prelude.{◌≡◌, ◌≢◌, ℕ, List, IsTrue}
use Rattle.vr_model.specs.routes.Routes.{holds, route}
use Rattle.vr_model.specs.search.GuidedSearches.{Penalties}
use Rattle.vr_model.specs.declared.neighbours.Neighbourhood.{Neighbourhood}
use Rattle.vr_known.specs.Blocks.{Memory, is_later}

-- a node is in no list but those of two vehicles
abbrev pub StandsNowhereElse : List (List ℕ) → ℕ → ℕ → ℕ → Type 0
StandsNowhereElse lists u w node = (v : ℕ) → v ≢ u → v ≢ w → IsTrue (holds (route lists v) node) → ⊥

-- arcs between nodes that are in no other list have the penalty that they had
abbrev pub AreSpared : List (List ℕ) → Penalties → Penalties → ℕ → ℕ → Type 0
AreSpared lists old new u w = (origin target : ℕ) → StandsNowhereElse lists u w origin
    → StandsNowhereElse lists u w target → new origin target ≡ old origin target

-- no arc was raised between nodes that are in no list but those of two vehicles, if some row was refused after both
-- last changed
abbrev pub SparesKnown : List (List ℕ) → Penalties → Penalties → Memory → Type 0
SparesKnown lists old new memory =
    (kind : Neighbourhood) (row u w : ℕ) → IsTrue (is_later memory kind row u)
    → IsTrue (is_later memory kind row w) → AreSpared lists old new u w
