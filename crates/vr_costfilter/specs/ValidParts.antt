-- A part of a change after which lists are valid.
use Rattle.std.specs.Prelude.{◌<◌, ℕ, IsTrue, List, length}
use Rattle.vr_model.specs.routes.Rules.{is_valid}
use Rattle.vr_model.specs.tables.WellFormed.{IsWellFormed}
use Rattle.vr_model.specs.declared.records.Model.{Model}
use Rattle.vr_routes.specs.Changes.{AreParts}
use Rattle.vr_routes.specs.Pieces.{ListAfter, changed}

-- lists of a well formed model are valid before a change of these parts and after it, and it has a part k
pub record IsValidPart (model : Model) (lists : List (List ℕ)) (parts : List ListAfter) (k : ℕ) : Type 0 where
  pub well_formed : IsWellFormed model
  pub before : IsTrue (is_valid model lists)
  pub parts_are : AreParts lists parts
  pub valid : IsTrue (is_valid model (changed lists parts))
  pub part : k < length parts
