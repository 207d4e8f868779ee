-- The runs of cumuls that a guide has.
use Rattle.std.specs.Prelude.{◌≡◌, ◌≤◌, ◌+◌, ℕ, IfSome, List, Option, length}
use Rattle.vr_model.specs.tables.Tables.{vehicle_at}
use Rattle.vr_model.specs.declared.records.ScheduleRule.{ScheduleRule}
use Rattle.vr_costfilter.specs.Floors.{first_step, IsStep, WentBack}
use Rattle.vr_costfilter.specs.Runs.{Runs, AreRuns}
use Rattle.vr_costfilter.specs.declared.guides.Guide.{Guide}
use Rattle.vr_costfilter.specs.declared.trails.Step.{Step}

-- the runs of its start, of the visits and of its end
abbrev pub runs_of : Guide → Runs
runs_of guide = record { start = guide.start; visits = guide.visits.now; finish = guide.finish.allowed }

-- they are what the stops of its vehicle allow, which has no breaks
abbrev pub HasItsRuns : Guide → Type 0
HasItsRuns guide = AreRuns guide.model.now guide.d guide.v (runs_of guide)

-- the steps to nodes, back from the next step on, may be put on a trail
pub record CanWalkBack (guide : Guide) (nodes : List ℕ) (next : Step) (old : List Step) : Type 0 where
  pub step : IsStep guide.model.now next
  pub room : length old + length nodes ≤ 1000

-- they were put there, and this is the first of them, or the next step if there is no node. It is none exactly if some
-- stop allows no cumul from its floor on.
pub record HasWalkedBack (guide : Guide) (nodes : List ℕ) (next : Step) (old new : List Step) (first : Option Step) :
    Type 0 where
  pub value : first ≡ first_step guide.model.now guide.d guide.v (runs_of guide) nodes next
  pub back : IfSome first (WentBack guide.model.now guide.d guide.v (runs_of guide) nodes next old new)
  pub range : IfSome first (IsStep guide.model.now)

-- the rule by which the schedules of its vehicle are chosen
abbrev pub rule_of : Guide → ScheduleRule
rule_of guide = (vehicle_at guide.model.now guide.v).schedule

-- its runs are what the stops of its vehicle allow, whose schedules are chosen by this rule
pub record IsGuideBy (rule : ScheduleRule) (guide : Guide) : Type 0 where
  pub runs : HasItsRuns guide
  pub rule_is : rule_of guide ≡ rule
