-- The floors of stops: the least cumuls from which that of the next stop can be met with no slack above the greatest.
use Rattle.std.specs.Prelude.{◌≡◌, ◌<◌, ◌++◌, ℕ, suc, All, IsTrue, List, cond, int_le, length, map, option_map}
use Rattle.std.specs.Prelude.{reverse, slice_index_or, [], ◌∷◌, Option, Some, None, ℤ, pos, ◌-ℤ◌}
use Rattle.std.specs.Int.{int_max}
use Rattle.std.specs.Option.{option_and_then}
use Rattle.vr_spans.specs.declared.runs.Run.{Run}
use Rattle.vr_model.specs.tables.Numbers.{horizon}
use Rattle.vr_model.specs.tables.Tables.{dimension_at, is_visit, transit, vehicle_at}
use Rattle.vr_model.specs.tables.WellFormed.{IsIn}
use Rattle.vr_model.specs.declared.records.Model.{Model}
use Rattle.vr_costfilter.specs.Runs.{Runs, no_run}
use Rattle.vr_costfilter.specs.declared.trails.Step.{Step}

-- the least cumul of a stop from which a floor can be met, over an arc that takes t and at most s more
abbrev pub floor_before : ℤ → ℤ → ℤ → Run → ℤ
floor_before floor t s allowed = int_max ((floor -ℤ t) -ℤ s) allowed.lo

-- the same; none if the stop allows no cumul from there on
abbrev pub floor_in : ℤ → ℤ → ℤ → Run → Option ℤ
floor_in floor t s allowed =
    cond (int_le (floor_before floor t s allowed) allowed.hi) (Some (floor_before floor t s allowed)) None

-- the floor of a stop of vehicle v at a node, before the next step
abbrev pub stop_floor : Model → ℕ → ℕ → ℕ → Run → Step → Option ℤ
stop_floor model d v node allowed next =
    floor_in next.floor (transit model d v node next.node) (dimension_at model d).slack_max allowed

-- the step to a visit, before the next step
abbrev pub before : Model → ℕ → ℕ → Runs → ℕ → Step → Option Step
before model d v runs node next = option_map (λ floor. record { node = node; floor = floor })
    (stop_floor model d v node (slice_index_or runs.visits node no_run) next)

-- the first of the steps to visits in order, which come before the next step. Of no visits it is the next step. It is
-- none if one of the visits allows no cumul from its floor on.
abbrev pub first_step : Model → ℕ → ℕ → Runs → List ℕ → Step → Option Step
first_step model d v runs [] next = Some next
first_step model d v runs (x ∷ xs) next =
    option_and_then (before model d v runs x) (first_step model d v runs xs next)

-- the step to the end
abbrev pub end_step : Model → ℕ → Runs → Step
end_step model v runs = record { node = (vehicle_at model v).end; floor = runs.finish.lo }

-- the first of steps, or the next one if there are none
abbrev pub first_step_or : List Step → Step → Step
first_step_or steps next = slice_index_or steps 0 next

-- each of these steps comes before the one after it, and the last one before the next step
pub record AreAimed (model : Model) (d v : ℕ) (runs : Runs) (steps : List Step) (next : Step) : Type 0 where
  pub each : (k : ℕ) → k < length steps
      → before model d v runs (slice_index_or steps k next).node (slice_index_or steps (suc k) next)
      ≡ Some (slice_index_or steps k next)

-- the nodes of steps
abbrev pub nodes_in : List Step → List ℕ
nodes_in steps = map (λ (step : Step). step.node) steps

-- the numbers of a step: a node of the model, and a cumul
pub record IsStep (model : Model) (step : Step) : Type 0 where
  pub node : step.node < model.nodes
  pub floor : IsIn (pos 0) horizon step.floor

-- the numbers of a step to a visit
pub record IsVisitStep (model : Model) (step : Step) : Type 0 where
  pub visit : IsTrue (is_visit model step.node)
  pub floor : IsIn (pos 0) horizon step.floor

-- the steps to these nodes, before the next step, were put on a trail from the last one to the first
pub record WentBack (model : Model) (d v : ℕ) (runs : Runs) (nodes : List ℕ) (next : Step) (old new : List Step)
    (first : Step) : Type 0 where
  pub steps : List Step
  pub nodes_are : nodes_in steps ≡ nodes
  pub aimed : AreAimed model d v runs steps next
  pub known : All (IsVisitStep model) steps
  pub trail : new ≡ old ++ reverse steps
  pub first_is : first ≡ first_step_or steps next
