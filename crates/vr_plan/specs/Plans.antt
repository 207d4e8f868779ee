-- Schedules as the code holds them.
use Rattle.std.specs.Prelude.{◌≡◌, ℕ, suc, ◌<◌, List, length, ℤ, pos, ◌-ℤ◌, Option, slice_index_or}
use Rattle.vr_model.specs.tables.Numbers.{number_at}
use Rattle.vr_model.specs.schedules.Lines.{Line as Defined}
use Rattle.std.specs.Option.{option_map}
use Rattle.vr_model.specs.schedules.Schedules.{Plan as Wanted}
use Rattle.vr_model.specs.schedules.Choices.{chosen}
use Rattle.vr_model.specs.schedules.Narrowed.{chosen_under}
use Rattle.vr_model.specs.declared.records.ScheduleRule.{ScheduleRule}
use Rattle.vr_steps.specs.declared.lines.Line.{Line}
use Rattle.vr_steps.specs.Lines.{IsLineOf}
use Rattle.vr_steps.specs.declared.hops.Hop.{Hop}
use Rattle.vr_plan.specs.declared.plans.Plan.{Plan}

abbrev pub no_hop : Hop
no_hop = record { transit = pos 0; slack = pos 0; visit = pos 0 }

-- the slacks are what the cumuls leave
pub record AreSlacks (hops : List Hop) (cumuls slacks : List ℤ) : Type 0 where
  pub one_of_each : length slacks ≡ length hops
  pub left : (k : ℕ) → k < length slacks → number_at slacks k
      ≡ (number_at cumuls (suc k) -ℤ number_at cumuls k) -ℤ (slice_index_or hops k no_hop).transit

-- a plan as the definitions see it
abbrev pub as_defined : Plan → Wanted
as_defined plan = record { cumuls = plan.cumuls; slacks = plan.slacks; breaks = plan.breaks }

-- the cumuls of a plan
abbrev pub cumuls_of : Wanted → List ℤ
cumuls_of plan = plan.cumuls

-- the plan is the chosen schedule of the line, and none is there if the line has no schedule
abbrev pub IsChosenPlan : Line → Option Plan → Type 0
IsChosenPlan line found = (defined : Defined) → IsLineOf defined line → option_map as_defined found ≡ chosen defined

-- the cumuls are those of the chosen schedule of the line, and none are there if the line has no schedule
abbrev pub AreChosenCumuls : Line → Option (List ℤ) → Type 0
AreChosenCumuls line found = (defined : Defined) → IsLineOf defined line → found ≡ option_map cumuls_of (chosen defined)

-- ---- under a rule

-- the plan is the schedule of the line that is chosen under the rule, and none is there if the line has no schedule
abbrev pub IsChosenPlanUnder : ScheduleRule → Line → Option Plan → Type 0
IsChosenPlanUnder rule line found =
    (defined : Defined) → IsLineOf defined line → option_map as_defined found ≡ chosen_under rule defined

-- the cumuls are those of the schedule that is chosen under the rule, and none are there if the line has no schedule
abbrev pub AreChosenCumulsUnder : ScheduleRule → Line → Option (List ℤ) → Type 0
AreChosenCumulsUnder rule line found =
    (defined : Defined) → IsLineOf defined line → found ≡ option_map cumuls_of (chosen_under rule defined)
