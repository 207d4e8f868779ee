-- How far a vehicle comes along its stops, at each the least cumul that the one before it and its floor leave.
use Rattle.std.specs.Prelude.{◌≡◌, ◌<◌, ◌*◌, ◌&&◌, ℕ, Bool, List, cond, fold, int_le, option_map, slice_index_or}
use Rattle.std.specs.Prelude.{Option, Some, None, ℤ, pos, ◌+ℤ◌, ◌-ℤ◌, ◌≤ℤ◌}
use Rattle.std.specs.Int.{int_max}
use Rattle.std.specs.Option.{option_and_then}
use Rattle.vr_spans.specs.declared.runs.Run.{Run}
use Rattle.vr_model.specs.tables.Numbers.{horizon}
use Rattle.vr_model.specs.tables.Tables.{dimension_at, row_of, transit, vehicle_at}
use Rattle.vr_model.specs.tables.WellFormed.{IsIn}
use Rattle.vr_model.specs.routes.Costs.{row_cost}
use Rattle.vr_model.specs.declared.records.Model.{Model}
use Rattle.vr_model.specs.declared.records.StopRow.{StopRow}
use Rattle.vr_plan.specs.Bounds.{cumul_cost}
use Rattle.vr_costfilter.specs.Runs.{Runs, no_run}
use Rattle.vr_costfilter.specs.Floors.{stop_floor}
use Rattle.vr_costfilter.specs.declared.guides.Stage.{Stage}
use Rattle.vr_costfilter.specs.declared.trails.Step.{Step}

-- the least cumul of a stop after an arc that takes t
abbrev pub next_cumul : ℤ → ℤ → Run → ℤ
next_cumul cumul t allowed = int_max (cumul +ℤ t) allowed.lo

-- the stop allows it, and the slack is at most s
abbrev pub can_go_on : ℤ → ℤ → ℤ → Run → Bool
can_go_on cumul t s allowed =
    int_le (next_cumul cumul t allowed) allowed.hi && int_le (next_cumul cumul t allowed -ℤ (cumul +ℤ t)) s

-- a vehicle goes on to a node, over an arc that takes t and at most s more; none if it cannot reach it so
abbrev pub go_on : ℤ → ℤ → ℕ → Run → Option StopRow → Stage → Option Stage
go_on t s node allowed row stage = cond (can_go_on stage.cumul t s allowed)
    (Some (record {
      at = node;
      cumul = next_cumul stage.cumul t allowed;
      soft = stage.soft +ℤ row_cost row (next_cumul stage.cumul t allowed);
    }))
    None

-- vehicle v is at its start at a cumul
abbrev pub stage_at_start : Model → ℕ → ℕ → ℤ → Stage
stage_at_start model d v cumul = record {
  at = (vehicle_at model v).start;
  cumul = cumul;
  soft = row_cost (row_of (dimension_at model d).starts v) cumul;
}

-- it is there at the floor of its start, before the next step
abbrev pub setting_out : Model → ℕ → ℕ → Runs → Step → Option Stage
setting_out model d v runs next =
    option_map (stage_at_start model d v) (stop_floor model d v (vehicle_at model v).start runs.start next)

-- the cumuls of a run from a floor on
abbrev pub from_floor : ℤ → Run → Run
from_floor floor allowed = record { lo = floor; hi = allowed.hi }

-- it goes on to a visit, at the least cumul from its floor on
abbrev pub to_visit : Model → ℕ → ℕ → Runs → Step → Stage → Option Stage
to_visit model d v runs step stage =
    go_on (transit model d v stage.at step.node) (dimension_at model d).slack_max step.node
    (from_floor step.floor (slice_index_or runs.visits step.node no_run))
    (row_of (dimension_at model d).nodes step.node)
    stage

-- it goes on to its end
abbrev pub to_end : Model → ℕ → ℕ → Runs → Stage → Option Stage
to_end model d v runs stage = go_on (transit model d v stage.at (vehicle_at model v).end)
    (dimension_at model d).slack_max (vehicle_at model v).end runs.finish (row_of (dimension_at model d).ends v) stage

-- one visit more, if the stage before it was reached
abbrev pub visit_more : Model → ℕ → ℕ → Runs → Option Stage → Step → Option Stage
visit_more model d v runs stage step = option_and_then (to_visit model d v runs step) stage

-- it goes on along steps to visits in order
abbrev pub along : Model → ℕ → ℕ → Runs → Option Stage → List Step → Option Stage
along model d v runs stage steps = fold (visit_more model d v runs) stage steps

-- it goes on along them to its end
abbrev pub along_to_end : Model → ℕ → ℕ → Runs → Option Stage → List Step → Option Stage
along_to_end model d v runs stage steps = option_and_then (to_end model d v runs) (along model d v runs stage steps)

-- the same stage, if z more was paid on the way
abbrev pub paid_more : ℤ → Stage → Stage
paid_more z stage = record { at = stage.at; cumul = stage.cumul; soft = stage.soft +ℤ z }

-- the numbers of a stage, of n stops: a node of the model, a cumul, and no more cost than they can have
pub record IsStageOf (model : Model) (n : ℕ) (stage : Stage) : Type 0 where
  pub at : stage.at < model.nodes
  pub cumul : IsIn (pos 0) horizon stage.cumul
  pub not_negative : pos 0 ≤ℤ stage.soft
  pub bound : stage.soft ≤ℤ pos (cumul_cost * n)

-- vehicle v is at its start
pub record IsAtStart (model : Model) (d v : ℕ) (stage : Stage) : Type 0 where
  pub stands : stage ≡ stage_at_start model d v stage.cumul
  pub range : IsStageOf model 1 stage
