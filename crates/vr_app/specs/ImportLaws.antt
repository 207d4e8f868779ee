-- Imported files are models.
use Rattle.std.specs.Prelude.{◌≡◌, ℕ, List, Result, Ok}
use Rattle.serde_json.specs.Data.{Data}
use Rattle.vr_json.specs.declared.fault.Fault.{Fault}
use Rattle.vr_model.specs.tables.WellFormed.{IsWellFormed}
use Rattle.vr_model.specs.declared.records.Model.{Model}
use Rattle.vr_read.specs.Models.{read_model}
use Rattle.vr_tsplib.specs.Ranges.{IsCountIn}
use Rattle.vr_tsplib.specs.Imported.{imported}

-- reading gives a model, and the model is well formed
pub record GivesModel (reading : Result Model Fault) : Type 0 where
  pub model : Model
  pub is_read : reading ≡ Ok model
  pub is_well_formed : IsWellFormed model

-- the tree of a file, with 1 to 100 vehicles, is read as a well-formed model, at any place of an input
abbrev pub ImportedTreesAreModels : Type 0
ImportedTreesAreModels =
    (vehicles : ℕ) → IsCountIn 1 100 vehicles → (bytes : List ℕ) → (tree : Data)
    → imported vehicles bytes ≡ Ok tree → (path : List ℕ) → GivesModel (read_model path tree)
