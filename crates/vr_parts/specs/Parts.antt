-- What a part of the cost is told of.
use Rattle.std.specs.Prelude.{◌≡◌, ℕ, ℤ, IsTrue, List}
use Rattle.vr_model.specs.routes.Rules.{is_valid}
use Rattle.vr_model.specs.declared.records.Model.{Model}

-- all valid lists of the model cost the same in a part
abbrev pub CostAlike : (Model → List (List ℕ) → ℤ) → Model → Type 0
CostAlike value model = (lists later : List (List ℕ)) → IsTrue (is_valid model lists) → IsTrue (is_valid model later)
    → value model later ≡ value model lists
