-- What is known when a part of the cost is asked.
use Rattle.std.specs.Prelude.{◌≡◌, IsTrue, List, false}
use Rattle.vr_model.specs.routes.Routes.{is_empty}
use Rattle.vr_model.specs.routes.Rules.{is_valid}
use Rattle.vr_model.specs.declared.records.Model.{Model}
use Rattle.vr_routes.specs.Changes.{IsMadeOn}
use Rattle.vr_routes.specs.Pieces.{ListAfter, changed}
use Rattle.vr_routes.specs.Tours.{Tours}
use Rattle.vr_costfilter.specs.Kept.{AreAllKept}
use Rattle.vr_costfilter.specs.PartsAfter.{list_after}
use Rattle.vr_costfilter.specs.declared.kept.KeptList.{KeptList}
use Rattle.vr_costfilter.specs.declared.parts_after.PartAfter.{PartAfter}

-- a change was made on routes with which something is in sync, and the lists after it are valid for a model
pub record IsValidChange (Stands : Tours → Type 0) (model : Model) (tours : Tours) (parts : List ListAfter) : Type 0
  where
    pub stands : Stands tours
    pub made : IsMadeOn tours parts
    pub valid : IsTrue (is_valid model (changed tours.lists parts))

-- the lists of routes are valid, and these cumuls are kept of them
pub record AreCumulsAt (model : Model) (kept : List (List KeptList)) (tours : Tours) : Type 0 where
  pub before : IsTrue (is_valid model tours.lists)
  pub cumuls : AreAllKept model tours.lists kept

-- the list that a part of a change gives its vehicle has nodes, and these cumuls are kept of the lists before
pub record IsUsedPart (part : PartAfter) (kept : List (List KeptList)) : Type 0 where
  pub some : is_empty (list_after part) ≡ false
  pub cumuls : AreAllKept part.model.now part.routes.now.lists kept
