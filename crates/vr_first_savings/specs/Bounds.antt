-- Bounds on what routes in front save.
use Rattle.std.specs.Prelude.{◌≡◌, ℕ, ◌<◌, ◌^◌, Bool, true, List, length, ℤ, pos, ◌≤ℤ◌, int_le, IsTrue}
use Rattle.std.specs.Prelude.{Option, Some, None}
use Rattle.vr_model.specs.tables.Numbers.{number_at}
use Rattle.vr_model.specs.routes.Routes.{route}
use Rattle.vr_model.specs.first.Items.{first_node}
use Rattle.vr_model.specs.first.SavingsJoins.{Join, may_join, saving}
use Rattle.vr_model.specs.declared.records.Model.{Model}
use Rattle.vr_first_savings.specs.declared.choice.JoinChoice.{JoinChoice}

-- one route after another
abbrev pub both : List ℕ → List ℕ → Join
both front back = record { front = front; back = back }

-- no join that may be made of a front route and one of the routes after it saves more than the bound
abbrev pub IsBound : Model → List (List ℕ) → List ℕ → ℤ → Type 0
IsBound model routes front bound = (j : ℕ) → j < length routes → IsTrue (may_join model (both front (route routes j)))
    → saving model (both front (route routes j)) ≤ℤ bound

-- bounds of all routes in front, by their first nodes
abbrev pub AreBounds : Model → List (List ℕ) → List ℤ → Type 0
AreBounds model routes bounds = (i : ℕ) → i < length routes
    → IsBound model routes (route routes i) (number_at bounds (first_node (route routes i)))

-- joins that save no more than the bound may be better than the best so far
abbrev pub may_improve : Option JoinChoice → ℤ → Bool
may_improve None bound = true
may_improve (Some best) bound = int_le best.saving bound

-- bounds are raised for the first route. Each is at least what its route saves in front of the first one. That of the
-- first route is at least what any join saves.
pub record AreRaised (model : Model) (routes : List (List ℕ)) (old new : List ℤ) : Type 0 where
  pub number : length new ≡ length old
  pub grown : (k : ℕ) → number_at old k ≤ℤ number_at new k
  pub reach : (i : ℕ) → i < length routes
      → saving model (both (route routes i) (route routes 0)) ≤ℤ number_at new (first_node (route routes i))
  pub all : pos (2 ^ 41) ≤ℤ number_at new (first_node (route routes 0))
