-- What lists are filled by, and a list at whose end items are put.
use Rattle.std.specs.Prelude.{◌≡◌, ◌<◌, All, IsTrue, length}
use Rattle.std.specs.List.{list_all}
use Rattle.vr_model.specs.routes.Rules.{is_route_open}
use Rattle.vr_model.specs.declared.records.Model.{Model}
use Rattle.vr_rules.specs.Fronts.{AreFrontsOf}
use Rattle.vr_rules.specs.Placing.{fits_by, AreCandidates}
use Rattle.vr_first_arc.specs.declared.growing.Filling.{Filling}
use Rattle.vr_first_arc.specs.declared.growing.Growing.{Growing}

-- the model whose lists are filled
abbrev pub filling_model : Filling → Model
filling_model filling = filling.lookups.now.closed.model.now

-- the candidates are all items of the model
abbrev pub IsFilling : Filling → Type 0
IsFilling filling = AreCandidates (filling_model filling) filling.candidates.now

-- the list is an open one of a vehicle, the fronts are what it reaches, and no group has more marked nodes than it may
pub record IsGrowing (growing : Growing) : Type 0 where
  pub filling : IsFilling growing.filling
  pub vehicle : growing.v < length (filling_model growing.filling).vehicles
  pub nodes : All (λ node. node < (filling_model growing.filling).nodes) growing.list.now
  pub stands : IsTrue (is_route_open (filling_model growing.filling) growing.v growing.list.now)
  pub fronts : AreFrontsOf (filling_model growing.filling) growing.v growing.list.now growing.fronts.now
  pub marks : length growing.marks.now ≡ (filling_model growing.filling).nodes
  pub fit : IsTrue (list_all (fits_by growing.marks.now) (filling_model growing.filling).groups)
