-- What cuts are made by.
use Rattle.std.specs.Prelude.{◌≡◌, ℕ, ◌≤◌, Bool, cond, List, IsTrue, Option, Some, None}
use Rattle.vr_model.specs.routes.Routes.{are_lists}
use Rattle.vr_model.specs.tables.Tables.{visits}
use Rattle.vr_routes.specs.Tours.{Tours}
use Rattle.vr_model.specs.declared.records.Model.{Model}

-- a model, and how many visits the chain of a cut has at most
pub record Cutter : Type 0 where
  pub model : Model
  pub most : ℕ

-- what was looked up and the rules are of one model, and the chain of a cut has few visits
pub record IsCutter (looked_up ruled : Model) (most : ℕ) : Type 0 where
  pub same : ruled ≡ looked_up
  pub few : most ≤ 100

-- routes of a model: they have its visits, and their lists are lists of it
pub record AreRoutesOf (model : Model) (routes : Tours) : Type 0 where
  pub visits_are : routes.visits ≡ visits model
  pub lists_are : IsTrue (are_lists model routes.lists)

-- lists if there is a result
abbrev pub result_in : Bool → List (List ℕ) → Option (List (List ℕ))
result_in there lists = cond there (Some lists) None
