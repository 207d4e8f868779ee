-- What is known of lists before items are put in.
use Rattle.std.specs.Prelude.{ℕ, ◌<◌, IsTrue, List, length}
use Rattle.vr_model.specs.routes.Routes.{route}
use Rattle.vr_model.specs.routes.Rules.{is_route_open}
use Rattle.vr_model.specs.declared.records.Model.{Model}
use Rattle.vr_first_insert.specs.declared.list_rows.ListRows.{ListRows}
use Rattle.vr_first_insert.specs.KeptRows.{AreKeptOf}

-- vehicle v may drive its list, and what is kept is that of the list
pub record IsListReady (model : Model) (v : ℕ) (list : List ℕ) (list_rows : List ListRows) : Type 0 where
  pub stands : IsTrue (is_route_open model v list)
  pub kept : AreKeptOf model v list list_rows

-- the same of each list
abbrev pub AreReady : Model → List (List ℕ) → List ListRows → Type 0
AreReady model lists list_rows = (v : ℕ) → v < length lists → IsListReady model v (route lists v) list_rows
