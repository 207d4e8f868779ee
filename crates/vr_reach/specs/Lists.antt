-- Lists that a vehicle may have, and whether a dimension lets it drive them.
use Rattle.std.specs.Prelude.{◌≡◌, ℕ, Bool, false, ◌||◌, List, IsTrue, slice_index_or}
use Rattle.std.specs.List.{list_all}
use Rattle.vr_model.specs.tables.Tables.{is_visit}
use Rattle.vr_model.specs.routes.Routes.{is_empty, is_distinct, stops}
use Rattle.vr_model.specs.schedules.Lines.{line}
use Rattle.vr_model.specs.schedules.Choices.{is_feasible}
use Rattle.vr_model.specs.declared.records.Model.{Model}

-- distinct visits of a model
pub record IsTour (model : Model) (list : List ℕ) : Type 0 where
  pub visits : IsTrue (list_all (is_visit model) list)
  pub distinct : IsTrue (is_distinct list)

-- the list of a used vehicle
pub record IsUsed (model : Model) (list : List ℕ) : Type 0 where
  pub some : is_empty list ≡ false
  pub tour : IsTour model list

-- the list is empty, or its line in dimension d is feasible
abbrev pub is_feasible_list : Model → ℕ → ℕ → List ℕ → Bool
is_feasible_list model d v list = is_empty list || is_feasible (line model d v list)

-- the node at stop k of vehicle v with a list
abbrev pub node_at_stop : Model → ℕ → List ℕ → ℕ → ℕ
node_at_stop model v list k = slice_index_or (stops model v list) k 0
