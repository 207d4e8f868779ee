-- What is reached at a stop of a list.
use Rattle.std.specs.Prelude.{◌≡◌, ℕ, suc, ◌<◌, ◌≤◌, Bool, false, List, length}
use Rattle.std.specs.List.{list_all}
use Rattle.vr_spans.specs.declared.runs.Run.{Run}
use Rattle.vr_model.specs.tables.Tables.{breaks_of, dimension_at}
use Rattle.vr_model.specs.tables.WellFormed.{IsWellFormed}
use Rattle.vr_model.specs.routes.Routes.{is_empty}
use Rattle.vr_model.specs.schedules.Lines.{line}
use Rattle.vr_model.specs.schedules.Choices.{is_feasible}
use Rattle.vr_model.specs.declared.records.Model.{Model}
use Rattle.vr_steps.specs.Levels.{AreLevels}
use Rattle.vr_steps.specs.Reached.{AreReached}
use Rattle.vr_reach.specs.Lists.{IsUsed}

-- the levels are what vehicle v reaches in dimension d at stop k of a list
pub record IsReachedAt (model : Model) (d v : ℕ) (list : List ℕ) (k : ℕ) (levels : List (List Run)) : Type 0 where
  pub form : AreLevels (breaks_of (dimension_at model d) v) levels
  pub reached : AreReached (line model d v list) k levels

-- the set of each number of breaks is empty
abbrev pub is_stuck : List (List Run) → Bool
is_stuck levels = list_all is_empty levels

-- a list that reaches the levels at a stop has no feasible line
abbrev pub ReachesNoEnd : List (List Run) → Type 0
ReachesNoEnd levels = (model : Model) (d v : ℕ) (list : List ℕ) (k : ℕ) → IsWellFormed model
    → d < length model.dimensions → v < length model.vehicles → IsUsed model list → k ≤ suc (length list)
    → IsReachedAt model d v list k levels → is_feasible (line model d v list) ≡ false
