-- The list of a vehicle.
use Rattle.std.specs.Prelude.{◌<◌, ◌≤◌, ℕ, IsTrue, List, length}
use Rattle.std.specs.List.{list_all}
use Rattle.vr_model.specs.routes.Routes.{is_distinct}
use Rattle.vr_model.specs.tables.Tables.{is_visit}
use Rattle.vr_model.specs.declared.records.Model.{Model}

-- at most 1000 distinct visits of a model, for its vehicle v
pub record IsTourOf (model : Model) (v : ℕ) (list : List ℕ) : Type 0 where
  pub vehicle : v < length model.vehicles
  pub visits : IsTrue (list_all (is_visit model) list)
  pub distinct : IsTrue (is_distinct list)
  pub few : length list ≤ 1000
