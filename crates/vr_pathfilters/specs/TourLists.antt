-- Lists that are tours of a model.
use Rattle.std.specs.Prelude.{◌≡◌, ℕ, Bool, List, length, IsTrue}
use Rattle.vr_model.specs.tables.Tables.{visits}
use Rattle.vr_model.specs.routes.Routes.{is_active, holds}
use Rattle.vr_model.specs.declared.records.Model.{Model}
use Rattle.vr_routes.specs.Seats.{IsOnce}
use Rattle.vr_routes.specs.Tours.{Tours}
use Rattle.vr_pathfilters.specs.Lists.{holds_of_each}

-- lists of the visits of a model, one for each vehicle, none twice
pub record AreTours (model : Model) (tours : Tours) : Type 0 where
  pub visits_are : tours.visits ≡ visits model
  pub list_of_each : length tours.lists ≡ length model.vehicles
  pub once : IsOnce tours.lists
  pub entries : (node : ℕ) → IsTrue (is_active tours.lists node) → IsTrue (holds tours.visits node)

-- the visits of a model, and lists, one for each vehicle, that keep a rule of the model
pub record KeepRule (rule : Model → ℕ → List ℕ → Bool) (model : Model) (tours : Tours) : Type 0 where
  pub visits_are : tours.visits ≡ visits model
  pub list_of_each : length tours.lists ≡ length model.vehicles
  pub rule_holds : IsTrue (holds_of_each (rule model) tours.lists)
