-- Models that reading gives and that have a first solution.
use Rattle.std.specs.Prelude.{◌≡◌, List, ℕ, Some, Result, Ok}
use Rattle.vr_json.specs.declared.fault.Fault.{Fault}
use Rattle.vr_model.specs.first.FirstSolutions.{first_lists}
use Rattle.vr_model.specs.declared.records.Model.{Model}

-- reading gives a model, and the model has a first solution
pub record IsSolved (reading : Result Model Fault) : Type 0 where
  pub model : Model
  pub is_read : reading ≡ Ok model
  pub lists : List (List ℕ)
  pub are_first : first_lists model ≡ Some lists
