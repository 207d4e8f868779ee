-- What the chosen schedule of a list comes to in one dimension.
use Rattle.std.specs.Prelude.{◌≡◌, ℕ, suc, ◌*◌, List, length, unwrap_or, ℤ, pos, ◌-ℤ◌, ◌*ℤ◌, ◌≤ℤ◌}
use Rattle.std.specs.List.{zip}
use Rattle.vr_model.specs.tables.Numbers.{number_at, total_by, horizon}
use Rattle.vr_model.specs.tables.Tables.{dimension_at}
use Rattle.vr_model.specs.tables.WellFormed.{IsIn}
use Rattle.vr_model.specs.schedules.Lines.{stop_rows}
use Rattle.vr_model.specs.schedules.Narrowed.{chosen_line}
use Rattle.vr_model.specs.schedules.Schedules.{Plan, cumul}
use Rattle.vr_model.specs.schedules.Choices.{chosen}
use Rattle.vr_model.specs.routes.Costs.{no_plan, row_cost}
use Rattle.vr_model.specs.declared.records.Model.{Model}
use Rattle.vr_model.specs.declared.records.Dimension.{Dimension}
use Rattle.vr_plan.specs.Bounds.{cumul_cost}
use Rattle.vr_plan.specs.declared.timings.Timing.{Timing}

-- the plan that is chosen for a list of vehicle v in dimension d
abbrev pub chosen_plan_of : Model → ℕ → ℕ → List ℕ → Plan
chosen_plan_of model d v list = unwrap_or (chosen (chosen_line model d v list)) no_plan

-- what cumuls cost by the soft upper bounds of the stops of a list
abbrev pub soft_of : Dimension → ℕ → List ℕ → List ℤ → ℤ
soft_of dimension v list cumuls = total_by (λ stop. row_cost stop.0 stop.1) (zip (stop_rows dimension v list) cumuls)

-- what the soft upper bounds cost vehicle v with a list
abbrev pub soft_with : Model → ℕ → ℕ → List ℕ → ℤ
soft_with model d v list = soft_of (dimension_at model d) v list (chosen_plan_of model d v list).cumuls

-- the cumul of the start of vehicle v with a list
abbrev pub start_with : Model → ℕ → ℕ → List ℕ → ℤ
start_with model d v list = cumul (chosen_plan_of model d v list) 0

-- the cumul of the end of vehicle v with a list
abbrev pub last_with : Model → ℕ → ℕ → List ℕ → ℤ
last_with model d v list = cumul (chosen_plan_of model d v list) (suc (length list))

-- what the span of vehicle v with a list costs
abbrev pub span_with : Model → ℕ → ℕ → List ℕ → ℤ
span_with model d v list = number_at (dimension_at model d).span_costs v
    *ℤ (last_with model d v list -ℤ start_with model d v list)

-- what the soft upper bounds of a list cost at its chosen schedule, and its cumuls at the start and at the end
pub record IsTiming (model : Model) (d v : ℕ) (list : List ℕ) (timing : Timing) : Type 0 where
  pub soft : timing.soft ≡ soft_of (dimension_at model d) v list (chosen_plan_of model d v list).cumuls
  pub start : timing.start ≡ cumul (chosen_plan_of model d v list) 0
  pub last : timing.last ≡ cumul (chosen_plan_of model d v list) (suc (length list))

-- the cost is not negative and no more than n cumuls cost at most, and both cumuls are in their range
pub record IsTimingOf (n : ℕ) (timing : Timing) : Type 0 where
  pub not_negative : pos 0 ≤ℤ timing.soft
  pub bound : timing.soft ≤ℤ pos (cumul_cost * n)
  pub start_in_range : IsIn (pos 0) horizon timing.start
  pub last_in_range : IsIn (pos 0) horizon timing.last
