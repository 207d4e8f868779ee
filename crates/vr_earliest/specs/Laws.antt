-- The law of the earliest cumuls, as a statement.
use Rattle.std.specs.Prelude.{◌≡◌, ℕ, suc, ◌<◌, false, List, length, ◌-ℤ◌, ◌≤ℤ◌}
use Rattle.vr_model.specs.tables.WellFormed.{IsWellFormed}
use Rattle.vr_model.specs.routes.Routes.{is_empty}
use Rattle.vr_model.specs.schedules.Narrowed.{chosen_line}
use Rattle.vr_model.specs.schedules.Schedules.{Plan, cumul, IsChosen}
use Rattle.vr_model.specs.declared.records.Model.{Model}
use Rattle.vr_earliest.specs.Ways.{earliest_end, least_span}

-- a plan ends no earlier than the earliest end of a list, and its span is no less than the least one
pub record IsNoEarlier (model : Model) (d v : ℕ) (list : List ℕ) (plan : Plan) : Type 0 where
  pub last : earliest_end model d v list ≤ℤ cumul plan (suc (length list))
  pub span : least_span model d v list ≤ℤ (cumul plan (suc (length list)) -ℤ cumul plan 0)

-- the chosen schedule of a list that is not empty does so, whatever the rule of its vehicle is
abbrev pub ChosenIsNoEarlier : Type 0
ChosenIsNoEarlier = (model : Model) → IsWellFormed model → (d v : ℕ) → d < length model.dimensions → (list : List ℕ)
    → is_empty list ≡ false → (plan : Plan) → IsChosen (chosen_line model d v list) plan
    → IsNoEarlier model d v list plan
