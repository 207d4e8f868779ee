-- What is kept of a list so that a change of it is walked no further than it reaches: its steps and its stages.
use Rattle.std.specs.Prelude.{◌≡◌, ◌<◌, ◌≤◌, ◌++◌, ◌+◌, ◌*◌, ℕ, suc, pos, neg_ℤ, All, List, Some, length, reverse, take}
use Rattle.std.specs.Prelude.{slice_index_or}
use Rattle.vr_spans.specs.declared.runs.Run.{Run}
use Rattle.vr_model.specs.tables.Numbers.{horizon}
use Rattle.vr_model.specs.tables.WellFormed.{IsIn}
use Rattle.vr_model.specs.declared.records.Model.{Model}
use Rattle.vr_plan.specs.Bounds.{cumul_cost}
use Rattle.vr_costfilter.specs.Runs.{Runs, starting}
use Rattle.vr_costfilter.specs.Floors.{end_step, first_step_or, nodes_in, AreAimed, IsStep, IsVisitStep}
use Rattle.vr_costfilter.specs.Stages.{along, paid_more, setting_out, along_to_end, IsStageOf}
use Rattle.vr_costfilter.specs.declared.guides.Stage.{Stage}
use Rattle.vr_costfilter.specs.declared.steps.KeptSteps.{KeptSteps}
use Rattle.vr_costfilter.specs.declared.steps.Lead.{Lead}
use Rattle.vr_costfilter.specs.declared.steps.Outset.{Outset}
use Rattle.vr_costfilter.specs.declared.trails.Step.{Step}

-- the steps of vehicle v to the visits of a list, before the step to its end
pub record AreSteps (model : Model) (d v : ℕ) (runs : Runs) (list : List ℕ) (steps : List Step) : Type 0 where
  pub nodes_are : nodes_in steps ≡ list
  pub aimed : AreAimed model d v runs steps (end_step model v runs)

-- the same, to visits, of which this is the first step
pub record AreStepsFrom (model : Model) (d v : ℕ) (runs : Runs) (list : List ℕ) (steps : List Step) (first : Step) :
    Type 0 where
  pub steps_are : AreSteps model d v runs list steps
  pub known : All (IsVisitStep model) steps
  pub first_is : first ≡ first_step_or steps (end_step model v runs)
  pub range : IsStep model first

-- the stages of vehicle v at its start and at the first n visits of these steps
pub record AreStages (model : Model) (d v : ℕ) (runs : Runs) (steps : List Step) (n : ℕ) (stages : List Stage) :
    Type 0 where
  pub each : (k : ℕ) (other : Stage) → k ≤ n
      → along model d v runs (setting_out model d v runs (first_step_or steps (end_step model v runs))) (take k steps)
      ≡ Some (slice_index_or stages k other)
  pub at : (k : ℕ) (other : Stage) → k < n
      → (slice_index_or stages (suc k) other).at ≡ (slice_index_or steps k (end_step model v runs)).node
  pub range : (k : ℕ) (other : Stage) → k ≤ n → IsStageOf model (suc n) (slice_index_or stages k other)

-- the same of all visits, and the stage at the end
pub record AreAllStages (model : Model) (d v : ℕ) (runs : Runs) (list : List ℕ) (steps : List Step)
    (stages : List Stage) : Type 0 where
  pub steps_are : AreSteps model d v runs list steps
  pub known : All (IsVisitStep model) steps
  pub stages_are : AreStages model d v runs steps (length list) stages
  pub end : (other : Stage) → along_to_end model d v runs
      (setting_out model d v runs (first_step_or steps (end_step model v runs))) steps
      ≡ Some (slice_index_or stages (suc (length list)) other)
  pub end_range : (other : Stage)
      → IsStageOf model (suc (suc (length list))) (slice_index_or stages (suc (length list)) other)

-- the steps to visits that are kept
abbrev pub steps_of : KeptSteps → List Step
steps_of kept = reverse kept.trail.steps.items

-- what is kept are the steps to at most 1000 visits, and the stages at each of them, at the start and at the end
pub record AreKnownSteps (model : Model) (d v : ℕ) (runs : Runs) (list : List ℕ) (kept : KeptSteps) : Type 0 where
  pub stages : AreAllStages model d v runs list (steps_of kept) kept.stages.items
  pub many : length kept.stages.items ≡ length list + 2
  pub few : length list ≤ 1000

-- if there are as many stages as stops, they are those of a list, and the steps are those to its visits
pub record HasStages (model : Model) (d v : ℕ) (runs : Runs) (list : List ℕ) (kept : KeptSteps) : Type 0 where
  pub told : length kept.stages.items ≡ suc (suc (length list))
      → AreAllStages model d v runs list (steps_of kept) kept.stages.items

-- if some of the first steps are kept, the first of all is the first of these
abbrev pub IsKeptLead : List Step → Lead → Type 0
IsKeptLead steps lead = 0 < lead.place → (other : Step) → lead.first ≡ slice_index_or steps 0 other

-- a lead takes n of the kept steps at most. If it takes any, its first step is the first of these. The numbers of its
-- first step are in range.
pub record IsLead (model : Model) (steps : List Step) (n : ℕ) (lead : Lead) : Type 0 where
  pub place : lead.place ≤ n
  pub first : IsStep model lead.first
  pub kept : IsKeptLead steps lead

-- the first step of all
abbrev pub first_led : Lead → Step
first_led lead = lead.first

-- of the steps to these nodes, before the next step, the first ones are kept, and the others were put on a trail
pub record IsLeadAlong (model : Model) (d v : ℕ) (runs : Runs) (kept : List Step) (nodes : List ℕ) (next : Step)
    (old new : List Step) (lead : Lead) : Type 0 where
  pub steps : List Step
  pub place : lead.place ≤ length nodes
  pub nodes_are : nodes_in (take lead.place kept ++ steps) ≡ nodes
  pub aimed : AreAimed model d v runs (take lead.place kept ++ steps) next
  pub known : All (IsVisitStep model) steps
  pub trail : new ≡ old ++ reverse steps
  pub first_is : lead.first ≡ first_step_or (take lead.place kept ++ steps) next
  pub kept_first : IsKeptLead kept lead
  pub range : IsStep model lead.first

-- the stage at which new steps begin, with all that was paid up to there
abbrev pub reached : Outset → Stage
reached met = paid_more met.more met.stage

-- a vehicle comes to a kept stage, and the end is kept too. What was paid is in range: up to the end, up to the kept
-- stage, and on the way of the vehicle. The cumul of the end is in range too.
pub record AreStagesInRange (end kept gone : Stage) : Type 0 where
  pub end_paid : IsIn (pos 0) (pos (cumul_cost * 1002)) end.soft
  pub end_cumul : IsIn (pos 0) horizon end.cumul
  pub kept_paid : IsIn (pos 0) (pos (cumul_cost * 1002)) kept.soft
  pub gone_paid : IsIn (pos 0) (pos (cumul_cost * 4000)) gone.soft

-- along these steps a stage comes to another one, with this much more paid on the way (less if it is negative)
pub record LeadsTo (model : Model) (d v : ℕ) (runs : Runs) (steps : List Step) (out : Stage) (met : Outset) :
    Type 0 where
  pub start : met.start ≡ out.cumul
  pub gone : along model d v runs (Some out) steps ≡ Some (reached met)
  pub range : IsStageOf model 1002 met.stage
  pub more : IsIn (neg_ℤ (pos (cumul_cost * 1002))) (pos (cumul_cost * 1002)) met.more

-- the same along the kept steps of a lead, from the stage at a start that allows this run
pub record IsOutsetOf (model : Model) (d v : ℕ) (runs : Runs) (start : Run) (kept : List Step) (lead : Lead)
    (met : Outset) : Type 0 where
  pub first : Stage
  pub out : setting_out model d v (starting runs start) lead.first ≡ Some first
  pub paced : LeadsTo model d v runs (take lead.place kept) first met
