-- The printed plans are schedules of their lines, where the rules on plans find nothing.
use Rattle.std.proofs.Common.{◌≡◌, ℕ, ◌-◌, ◌<◌, true, false, List, [], ◌∷◌, length, sym, subst, ap, ◌∙◌, arith}
use Rattle.std.specs.Prelude.{IsTrue, None, slice_index_or, pos}
use Rattle.std.specs.List.{list_all}
use Rattle.std.proofs.Math.ListN.{get_or-map}
use Rattle.std.proofs.lemmas.List.{length-map}
use Rattle.vr_model.specs.tables.Numbers.{below, within}
use Rattle.vr_model.specs.routes.Routes.{route, is_empty}
use Rattle.vr_model.specs.schedules.Lines.{Line, line}
use Rattle.vr_model.specs.schedules.Schedules.{Plan, both_sides, IsSchedule, allows, cumul, slack}
use Rattle.vr_model.specs.deciding.ScheduleTests.{rule_tests, slack_is, is_placed, keeps_rules-sound}
use Rattle.vr_model.specs.schedules.Choices.{is_feasible}
use Rattle.vr_model.specs.routes.Costs.{plan_at}
use Rattle.vr_model.specs.routes.AssignmentLaws.{MeetsItsLines}
use Rattle.vr_model.specs.deciding.Testing.{and_left, and_right, test_of_eq, range_list_all, all_passed}
use Rattle.vr_model.specs.declared.records.Model.{Model}
use Rattle.vr_model.proofs.schedules.ChoiceLaws.{chosen_where_feasible}
use Rattle.vr_check.specs.Findings.{spot}
use Rattle.vr_printed.specs.Printed.{no_route, plan_of, plans_of, visits_of, lists_of, assignment_of}
use Rattle.vr_printed.specs.Shape.{no_printed_plan, plan_in, are_routes_shaped}
use Rattle.vr_check.specs.Plans.{cumul_broken_at, cumul_broken, is_right_slack, slack_broken_at, slack_broken, starts_in_range, ends_in_time, carries_breaks}
use Rattle.vr_check.specs.Plans.{are_breaks_right, break_broken, plan_broken_in, route_broken_at, routes_broken}
use Rattle.vr_check.specs.declared.plans.PlanRule.{PlanRule}
use Rattle.vr_check.specs.declared.plans.PlanRule.TheVariants as plan
use Rattle.vr_printed.specs.declared.printed.PrintedRoute.{PrintedRoute}
use Rattle.vr_check.proofs.Nothing.{at_none, is_right}
use Rattle.vr_check.proofs.Lines.{line_arcs, line_stops}
use Rattle.vr_printed.proofs.Shaped.{lengths_of, plans_there, visits_long, route_shaped}
use Rattle.vr_check.proofs.PrintedLists.{route_is}

-- a plan that fits its line, and in which no rule finds anything, is a schedule
schedule_from : (line : Line) (v d : ℕ) (plan : Plan) → length plan.cumuls ≡ length line.allowed
    → length plan.slacks ≡ length line.arcs → length plan.breaks ≡ length line.breaks
    → cumul_broken line v plan ≡ None → slack_broken line v plan ≡ None → break_broken line d v plan ≡ None → IsSchedule line plan
schedule_from line v d plan stops arcs breaks cumuls slacks taken =
    let slack_at = λ (k : ℕ) (low : k < length line.arcs). is_right (is_right_slack line plan k) (spot v k)
    (at_none (slack_broken_at line v plan) (length plan.slacks) slacks k (omega (arith, low, arcs))) in
    let good = is_right (are_breaks_right line plan) (spot v d) taken in
    let rest = and_right (list_all (starts_in_range line plan) (below (length line.breaks))) _ good in
    let last = and_right (list_all (ends_in_time line plan) (below (length line.breaks - 1))) _ rest in
    keeps_rules-sound both_sides line plan (all_passed (rule_tests both_sides line plan) (
      test_of_eq _ _ stops,
      (
        test_of_eq _ _ arcs,
        (
          test_of_eq _ _ breaks,
          (
            range_list_all (λ k. allows line k (cumul plan k)) 0 (length line.allowed)
                (λ k from low. is_right (allows line k (cumul plan k)) (spot v k)
                (at_none (cumul_broken_at line v plan) (length plan.cumuls) cumuls k (omega (arith, low, stops)))),
            (
              range_list_all (slack_is line plan) 0 (length line.arcs) (λ k from low. and_left (slack_is line plan k) _ (slack_at k (omega (arith, low)))),
              (
                range_list_all (λ k. within (pos 0) line.slack_max (slack plan k)) 0 (length line.arcs)
                    (λ k from low. and_right (slack_is line plan k) _ (slack_at k (omega (arith, low)))),
                (
                  and_left (list_all (starts_in_range line plan) (below (length line.breaks))) _ good,
                  (
                    and_left (list_all (ends_in_time line plan) (below (length line.breaks - 1))) _ rest,
                    (
                      and_left (list_all (is_placed both_sides line plan) (below (length line.breaks))) _ last,
                      (
                        subst (λ n. list_all (carries_breaks line plan) (below n) ≡ true) arcs
                            (and_right (list_all (is_placed both_sides line plan) (below (length line.breaks))) _ last),
                        tt,
                      ),
                    ),
                  ),
                ),
              ),
            ),
          ),
        ),
      ),
    ))

-- the plan of a vehicle in the assignment is the one that is printed
pub plan_is_printed : (routes : List PrintedRoute) (d v : ℕ) → plan_at (assignment_of routes) d v ≡ plan_of (plan_in (slice_index_or routes v no_route) d)
plan_is_printed routes d v = ap (λ plans. slice_index_or plans d (plan_of no_printed_plan)) (get_or-map plans_of routes v no_route)
    ∙ get_or-map plan_of (slice_index_or routes v no_route).plans d no_printed_plan

pub long_enough : (list : List ℕ) → is_empty list ≡ false → 0 < length list
long_enough [] e = absurd (cc)
long_enough (x ∷ xs) e = omega arith

module _ (model : Model) (routes : List PrintedRoute) (shaped : IsTrue (are_routes_shaped model routes))
    (cumuls : routes_broken plan.Cumul model routes ≡ None) (slacks : routes_broken plan.Slack model routes ≡ None)
    (breaks : routes_broken plan.Break model routes ≡ None) where
  pub plans_scheduled : MeetsItsLines model (assignment_of routes)
  plans_scheduled d v low known some =
      let r = slice_index_or routes v no_route in
      let there : v < length routes = omega (arith, known, length-map routes visits_of) in
      let here = route_shaped model routes shaped v there in
      let used : 0 < length (visits_of r) = long_enough (visits_of r) (sym (ap is_empty (route_is routes v)) ∙ some) in
      let planned : d < length r.plans = omega (arith, low, plans_there model v r here used) in
      let lengths = lengths_of model v r here d planned in
      let long = visits_long r.nodes in
      let found = λ (rule : PlanRule) (none : routes_broken rule model routes ≡ None). at_none (plan_broken_in rule model v r)
      (length r.plans) (at_none (route_broken_at rule model routes) (length routes) none v there) d planned in
      let made = schedule_from (line model d v (visits_of r)) v d (plan_of (plan_in r d))
      (lengths.cumuls ∙ omega (arith, lengths.nodes, long, line_stops model d v (visits_of r)))
      (lengths.slacks ∙ omega (arith, lengths.nodes, long, line_arcs model d v (visits_of r)))
      lengths.breaks (found plan.Cumul cumuls) (found plan.Slack slacks) (found plan.Break breaks) in
      let same_plan : plan_at (assignment_of routes) d v ≡ plan_of (plan_in r d) = plan_is_printed routes d v in
      subst (λ list. IsSchedule (line model d v list) (plan_at (assignment_of routes) d v))
      (sym (route_is routes v)) (subst (IsSchedule (line model d v (visits_of r))) (sym same_plan) made)

  pub lines_feasible : (d v : ℕ) → d < length model.dimensions → v < length (lists_of routes)
      → is_empty (route (lists_of routes) v) ≡ false → IsTrue (is_feasible (line model d v (route (lists_of routes) v)))
  lines_feasible d v low known some =
      (chosen_where_feasible (line model d v (route (lists_of routes) v))).1 (plan_at (assignment_of routes) d v, plans_scheduled d v low known some)
