-- The rules on printed plans: cumuls, slacks and breaks.
use Rattle.std.specs.Prelude.{ℕ, suc, ◌-◌, Bool, not, ◌&&◌, List, length, pos, int_le, slice_index_or, Option}
use Rattle.std.specs.List.{list_all}
use Rattle.vr_model.specs.tables.Numbers.{below, within}
use Rattle.vr_model.specs.schedules.Lines.{Line, line}
use Rattle.vr_model.specs.schedules.Schedules.{Plan, both_sides, allows, cumul, slack, break_at}
use Rattle.vr_model.specs.schedules.Schedules.{break_start, break_end, break_time}
use Rattle.vr_model.specs.deciding.ScheduleTests.{slack_is, is_placed}
use Rattle.vr_model.specs.declared.records.Model.{Model}
use Rattle.vr_check.specs.Findings.{spot, where_wrong, first_finding}
use Rattle.vr_printed.specs.Printed.{plan_of, visits_of, no_route}
use Rattle.vr_printed.specs.Shape.{plan_in}
use Rattle.vr_check.specs.declared.finding.Spot.{Spot}
use Rattle.vr_check.specs.declared.plans.PlanRule.{PlanRule}
use Rattle.vr_check.specs.declared.plans.PlanRule.TheVariants.{Cumul, Slack, Break}
use Rattle.vr_printed.specs.declared.printed.PrintedRoute.{PrintedRoute}

abbrev pub cumul_broken_at : Line → ℕ → Plan → ℕ → Option Spot
cumul_broken_at line v plan k = where_wrong (not (allows line k (cumul plan k))) (spot v k)

-- the first stop that does not allow its cumul
abbrev pub cumul_broken : Line → ℕ → Plan → Option Spot
cumul_broken line v plan = first_finding (cumul_broken_at line v plan) (below (length plan.cumuls))

-- a slack is what its cumuls leave over the transit, and in 0..=slack_max
abbrev pub is_right_slack : Line → Plan → ℕ → Bool
is_right_slack line plan k = slack_is line plan k && within (pos 0) line.slack_max (slack plan k)

abbrev pub slack_broken_at : Line → ℕ → Plan → ℕ → Option Spot
slack_broken_at line v plan k = where_wrong (not (is_right_slack line plan k)) (spot v k)

-- the first arc whose slack is wrong
abbrev pub slack_broken : Line → ℕ → Plan → Option Spot
slack_broken line v plan = first_finding (slack_broken_at line v plan) (below (length plan.slacks))

-- break i starts in its range
abbrev pub starts_in_range : Line → Plan → ℕ → Bool
starts_in_range line plan i = within (break_at line i).from (break_at line i).to (break_start plan i)

-- break i ends at or before the start of the next one
abbrev pub ends_in_time : Line → Plan → ℕ → Bool
ends_in_time line plan i = int_le (break_end line plan i) (break_start plan (suc i))

-- the slack of arc k is enough for the breaks inside it
abbrev pub carries_breaks : Line → Plan → ℕ → Bool
carries_breaks line plan k = int_le (break_time line plan k) (slack plan k)

-- each break starts in its range
abbrev pub all_in_range : Line → Plan → Bool
all_in_range line plan = list_all (starts_in_range line plan) (below (length line.breaks))

-- each break ends at or before the start of the next one
abbrev pub all_in_time : Line → Plan → Bool
all_in_time line plan = list_all (ends_in_time line plan) (below (length line.breaks - 1))

-- each break lies in a place that it may have
abbrev pub all_placed : Line → Plan → Bool
all_placed line plan = list_all (is_placed both_sides line plan) (below (length line.breaks))

-- each slack is enough for the breaks inside its arc
abbrev pub all_carried : Line → Plan → Bool
all_carried line plan = list_all (carries_breaks line plan) (below (length plan.slacks))

-- all rules on breaks hold
abbrev pub are_breaks_right : Line → Plan → Bool
are_breaks_right line plan =
    all_in_range line plan && (all_in_time line plan && (all_placed line plan && all_carried line plan))

-- what is said of breaks names the dimension
abbrev pub break_broken : Line → ℕ → ℕ → Plan → Option Spot
break_broken line d v plan = where_wrong (not (are_breaks_right line plan)) (spot v d)

-- the spot at which one of the three rules is broken in a plan
abbrev pub plan_broken : PlanRule → Line → ℕ → ℕ → Plan → Option Spot
plan_broken Cumul line d v plan = cumul_broken line v plan
plan_broken Slack line d v plan = slack_broken line v plan
plan_broken Break line d v plan = break_broken line d v plan

abbrev pub plan_broken_in : PlanRule → Model → ℕ → PrintedRoute → ℕ → Option Spot
plan_broken_in rule model v route d =
    plan_broken rule (line model d v (visits_of route)) d v (plan_of (plan_in route d))

-- dimension after dimension
abbrev pub route_broken : PlanRule → Model → ℕ → PrintedRoute → Option Spot
route_broken rule model v route = first_finding (plan_broken_in rule model v route) (below (length route.plans))

abbrev pub route_broken_at : PlanRule → Model → List PrintedRoute → ℕ → Option Spot
route_broken_at rule model routes v = route_broken rule model v (slice_index_or routes v no_route)

-- vehicle after vehicle
abbrev pub routes_broken : PlanRule → Model → List PrintedRoute → Option Spot
routes_broken rule model routes = first_finding (route_broken_at rule model routes) (below (length routes))
