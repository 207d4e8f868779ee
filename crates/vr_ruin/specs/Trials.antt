-- Routes on trial.
use Rattle.std.specs.Prelude.{◌≡◌, ℕ, List, length}
use Rattle.vr_model.specs.tables.Tables.{visits}
use Rattle.vr_model.specs.declared.records.Model.{Model}
use Rattle.vr_routes.specs.Tours.{Tours}
use Rattle.vr_rules.specs.Placing.{AreBuilt}
use Rattle.vr_ruin.specs.Known.{AreKnownRoutes}
use Rattle.vr_ruin.specs.declared.known.KnownRoute.{KnownRoute}

-- a model, and lists of it
pub record OnTrial : Type 0 where
  pub model : Model
  pub lists : List (List ℕ)

-- routes with the visits of a model hold open lists of it, and each vehicle has a list whose rows are known. Other
-- routes and other lists are as many as these
pub record AreOnTrial (model : Model) (routes : Tours) (known : List KnownRoute) (spare : Tours)
    (room : List (List ℕ)) : Type 0 where
  pub visits_are : routes.visits ≡ visits model
  pub built : AreBuilt model routes.lists
  pub known_are : AreKnownRoutes model known
  pub spare_visits : spare.visits ≡ visits model
  pub spare_many : length spare.lists ≡ length model.vehicles
  pub room_many : length room ≡ length model.vehicles
