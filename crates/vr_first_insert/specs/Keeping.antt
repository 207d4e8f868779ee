-- What is kept from one rebuild to the next.
use Rattle.std.specs.Prelude.{◌≡◌, length, Option, Some, None}
use Rattle.vr_model.specs.declared.records.Model.{Model}
use Rattle.vr_rules.specs.Placing.{AreCandidates}
use Rattle.vr_first_insert.specs.KeptRows.{AreKeptRows}
use Rattle.vr_first_insert.specs.Kept.{AreKnownRows}
use Rattle.vr_first_insert.specs.declared.keeper.Keeper.{Keeper}
use Rattle.vr_first_insert.specs.declared.solution.Rebuilder.{Rebuilder}

-- all items of a model and a list for each vehicle, with its rows and what is known of each item in it
pub record IsKeeper (model : Model) (keeper : Keeper) : Type 0 where
  pub candidates : AreCandidates model keeper.candidates.items
  pub vehicles : length keeper.lists.items ≡ length model.vehicles
  pub kept : AreKeptRows model keeper.lists.items keeper.list_rows.items
  pub rows : AreKnownRows model keeper.lists.items keeper.candidates.items keeper.known_items.items

-- the same of what rebuilds routes
abbrev pub IsRebuilder : Model → Rebuilder → Type 0
IsRebuilder model rebuilder = IsKeeper model rebuilder.keeper.value

-- there is such, and it is of the model
abbrev pub IsOpened : Model → Option Rebuilder → Type 0
IsOpened model None = ⊥
IsOpened model (Some rebuilder) = IsRebuilder model rebuilder
