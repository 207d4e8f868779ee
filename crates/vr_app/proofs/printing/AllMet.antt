-- What is printed of valid lists meets all rules.
use Rattle.std.proofs.Common.{◌≡◌, ◌∙◌, ℕ, ◌-◌, ◌^◌, ◌<◌, ◌≤◌, Bool, true, false, cond, List, [], length, Option, Some, None, refl, ap, ap₂, arith}
use Rattle.std.specs.Prelude.{ℤ, pos, ◌≤ℤ◌, int_le, slice_index_or, IsTrue}
use Rattle.std.proofs.lemmas.Int.{ints}
use Rattle.vr_model.specs.tables.Numbers.{below, within, is_same_number}
use Rattle.vr_model.specs.tables.WellFormed.{IsWellFormed}
use Rattle.vr_model.specs.deciding.Testing.{and_both, test_of_le, test_of_within, tests_of_eq}
use Rattle.vr_model.specs.routes.Routes.{route, is_empty, inactive}
use Rattle.vr_model.specs.routes.Rules.{is_valid}
use Rattle.vr_model.specs.routes.Costs.{Assignment, assigned, parts_at, plan_at, sum_of, cost}
use Rattle.vr_model.specs.schedules.Lines.{Line, line}
use Rattle.vr_model.specs.schedules.Schedules.{Plan}
use Rattle.vr_model.specs.declared.records.Model.{Model}
use Rattle.vr_model.specs.declared.records.Report.{Report}
use Rattle.vr_model.proofs.routes.Assigned.{chosen_plans_are_there}
use Rattle.vr_model.proofs.routes.CostFits.{costs_are_bounded}
use Rattle.vr_model.proofs.routes.Lists.{route-visits}
use Rattle.vr_print.specs.Solution.{routes_tree, assignment_tree, solution_tree}
use Rattle.vr_printed.specs.Printed.{no_route, plan_of, visits_of}
use Rattle.vr_printed.specs.Shape.{plan_in, where_shaped, printed_in}
use Rattle.vr_printed.specs.declared.printed.Printed.{Printed}
use Rattle.vr_printed.specs.declared.printed.PrintedRoute.{PrintedRoute}
use Rattle.vr_check.specs.declared.finding.Finding.{Finding}
use Rattle.vr_check.specs.declared.finding.Finding.TheVariants.{Meets}
use Rattle.vr_check.specs.declared.finding.Rule.TheVariants as rule
use Rattle.vr_check.specs.Findings.{first_finding, unless_broken}
use Rattle.vr_check.specs.Lists.{ends_broken_of, ends_broken_in, ends_broken}
use Rattle.vr_check.specs.Plans.{cumul_broken, slack_broken, break_broken}
use Rattle.vr_check.specs.Parts.{parts_differ, is_within_limits}
use Rattle.vr_check.specs.Check.{numbers_finding, lists_finding, finding_in, finding}
use Rattle.vr_app.specs.Printing.{PrintedMeets}
use Rattle.vr_app.proofs.printing.Below.{length_below}
use Rattle.vr_app.proofs.printing.ReadBack.{plan_printed, plans_printed, route_printed, routes_back, solution_back}
use Rattle.vr_app.proofs.printing.PrintedBack.{routes_printed, between_ends, plan_in_is, no_plans, plans_are, route_at, routes_shaped, lists_back}
use Rattle.vr_app.proofs.printing.PrintedBack.{assignment_back}
use Rattle.vr_check.proofs.ValidLists.{nothing, are, nothing_required, nothing_in_groups, nothing_in_pairs, nothing_of_policies, nothing_of_vehicles}
use Rattle.vr_app.proofs.printing.ListsMet.{right_nowhere, no_wrong_end, nothing_dropped, nothing_twice}
use Rattle.vr_app.proofs.printing.PlansMet.{no_wrong_cumul, no_wrong_slack, no_wrong_break, same_parts}
use Rattle.vr_app.proofs.printing.Printable.{scheduled, fits, all_vehicles, printable_assignment, printable_parts, dropped_low, dropped_few}

-- a rule finds nothing, and what is found behind it is the finding
met : {R S : Type 0} {c : Finding} (f : R → Option S → Finding → Finding) (r : R) {s : Option S} (rest : Finding)
    → s ≡ None → f r None rest ≡ c → f r s rest ≡ c
met f r rest h k = ap (λ o. f r o rest) h ∙ k

module _ (model : Model) (well : IsWellFormed model) (lists : List (List ℕ)) (valid : IsTrue (is_valid model lists)) where
  abbrev assignment : Assignment
  assignment = assigned model lists

  abbrev routes : List PrintedRoute
  routes = routes_printed model assignment

  count : length routes ≡ length lists
  count = length_below (route_printed model assignment) (length lists)

  no_wrong_ends : ends_broken model routes ≡ None
  no_wrong_ends = nothing (ends_broken_in model routes) (length routes) (λ v low. (let there : v < length lists = omega (arith, low, count) in
      ap (λ r. ends_broken_of model v r.nodes) (route_at model assignment v there)
      ∙ no_wrong_end model v (route lists v) (route-visits model lists v (are model lists valid))))

  -- a rule on plans that finds nothing in the plan of any used vehicle
  module _ {B : Type 0} (broken : Line → ℕ → ℕ → Plan → Option B)
      (none : (d v : ℕ) → d < length model.dimensions → v < length lists → is_empty (route lists v) ≡ false
      → broken (line model d v (route lists v)) d v (plan_at assignment d v) ≡ None) where
    abbrev broken_in : ℕ → PrintedRoute → ℕ → Option B
    broken_in v r d = broken (line model d v (visits_of r)) d v (plan_of (plan_in r d))

    abbrev broken_of : ℕ → PrintedRoute → Option B
    broken_of v r = first_finding (broken_in v r) (below (length r.plans))

    no_wrong_route : (v : ℕ) → v < length lists → broken_of v (route_printed model assignment v) ≡ None
    no_wrong_route v low = nothing (broken_in v (route_printed model assignment v))
        (length (plans_printed model assignment v)) (λ d known. by d known (is_empty (route lists v)) refl)
      where
        by : (d : ℕ) → d < length (plans_printed model assignment v) → (b : Bool)
            → is_empty (route lists v) ≡ b → broken_in v (route_printed model assignment v) d ≡ None
        by d known true e = absurd (let nowhere_known = ap length (no_plans model assignment v e) in omega (arith, known, nowhere_known))
        by d known false e =
            let all = ap length (plans_are model assignment v e) in
            let here : d < length model.dimensions = omega (arith, known, all, length_below (plan_printed model assignment v) (length model.dimensions)) in
            ap₂ (λ list plan. broken (line model d v list) d v plan) (between_ends model v (route lists v))
            (ap plan_of (plan_in_is model assignment v d here e)) ∙ none d v here low e

    no_wrong_routes : first_finding (λ v. broken_of v (slice_index_or routes v no_route)) (below (length routes)) ≡ None
    no_wrong_routes =
        nothing (λ v. broken_of v (slice_index_or routes v no_route)) (length routes) (λ v low. (let there : v < length lists = omega (arith, low, count) in
        ap (broken_of v) (route_at model assignment v there) ∙ no_wrong_route v there))

  module _ (first_cost : ℤ) (report : Report) where
    abbrev printed : Printed
    printed = record {
      cost = sum_of (parts_at model assignment);
      dropped = inactive model lists;
      first_cost = first_cost;
      parts = parts_at model assignment;
      routes = routes;
      solutions = pos report.solutions;
      tries = pos report.tries;
    }

    is_read : pos 0 ≤ℤ first_cost → first_cost ≤ℤ pos (2 ^ 63 - 1) → report.tries ≤ 1000000000 → report.solutions ≤ 1000000000
        → printed_in model (solution_tree model lists first_cost report) ≡ Some printed
    unfolding printed_in assignment_tree
    is_read low high tries solutions =
        ap (where_shaped model)
        (solution_back model.nodes (parts_at model assignment) (inactive model lists) (routes_tree model assignment) routes first_cost report []
        well.number_of_nodes.1 (printable_parts model well lists valid) (dropped_low model well lists valid)
        (let few = dropped_few model well lists valid in omega (arith, few))
        (record { at_least = low; at_most = high }) (routes_back model assignment (printable_assignment model well lists valid)) solutions tries)
        ∙ ap (λ b. cond b (Some printed) None) (routes_shaped model assignment (fits model well lists valid) (all_vehicles model well lists valid))

    numbers_met : cost model lists ≤ℤ first_cost → report.tries ≤ model.search.tries → 1 ≤ report.solutions
        → report.solutions ≤ model.search.solutions → numbers_finding model printed ≡ Meets (cost model lists)
    unfolding cost
    numbers_met no_dearer tries some solutions =
        let c : ℤ = cost model lists in
        met unless_broken rule.Parts _
        (ap (λ a. parts_differ (parts_at model assignment) (parts_at model a)) (assignment_back model assignment (chosen_plans_are_there model lists))
        ∙ same_parts (parts_at model assignment))
        (met unless_broken rule.Cost _ (right_nowhere (is_same_number c c) (tests_of_eq c c refl))
        (met unless_broken rule.FirstCost _ (right_nowhere (int_le c first_cost) (test_of_le c first_cost no_dearer))
        (met unless_broken rule.Limits _ (right_nowhere (is_within_limits model printed)
        (and_both (within (pos 0) (pos model.search.tries) (pos report.tries)) _
        (test_of_within (pos 0) (pos model.search.tries) (pos report.tries) (omega (arith, ints)) (omega (arith, ints, tries)))
        (test_of_within (pos 1) (pos model.search.solutions) (pos report.solutions) (omega (arith, ints, some)) (omega (arith, ints, solutions))))) refl)))

    all_met : numbers_finding model printed ≡ Meets (cost model lists) → lists_finding model printed lists ≡ Meets (cost model lists)
    all_met numbers =
        met unless_broken rule.Ends _ no_wrong_ends
        (met unless_broken rule.Once _ (nothing_twice model lists valid)
        (met unless_broken rule.Dropped _ (nothing_dropped model lists valid)
        (met unless_broken rule.Required _ (nothing_required model lists valid)
        (met unless_broken rule.Group _ (nothing_in_groups model lists valid)
        (met unless_broken rule.Pair _ (nothing_in_pairs model lists valid)
        (met unless_broken rule.Policy _ (nothing_of_policies model lists valid)
        (met unless_broken rule.Allowed _ (nothing_of_vehicles model lists valid)
        (met unless_broken rule.Cumul _
        (no_wrong_routes (λ line d v plan. cumul_broken line v plan)
        (λ d v low known some. no_wrong_cumul (line model d v (route lists v)) d v
        (plan_at assignment d v) (scheduled model well lists valid d v low known some)))
        (met unless_broken rule.Slack _
        (no_wrong_routes (λ line d v plan. slack_broken line v plan)
        (λ d v low known some. no_wrong_slack (line model d v (route lists v)) d v
        (plan_at assignment d v) (scheduled model well lists valid d v low known some)))
        (met unless_broken rule.Break _
        (no_wrong_routes (λ line d v plan. break_broken line d v plan)
        (λ d v low known some. no_wrong_break (line model d v (route lists v)) d v
        (plan_at assignment d v) (scheduled model well lists valid d v low known some))) numbers))))))))))

pub printed_meets : PrintedMeets
unfolding finding
printed_meets model well lists valid first_cost no_dearer fits_in report tries some solutions =
    let p : Printed = printed model well lists valid first_cost report in
    let search = well.search_in_range in
    let least = (costs_are_bounded model well lists valid).least in
    let positive : pos 0 ≤ℤ first_cost = at_least (cost model lists) first_cost least no_dearer in
    ap (finding_in model) (is_read model well lists valid first_cost report positive fits_in
    (let most = search.tries_in_range in omega (arith, tries, most)) (let most = search.solutions_in_range.1 in omega (arith, solutions, most)))
    ∙ ap (lists_finding model p) (lists_back model (assigned model lists))
    ∙ all_met model well lists valid first_cost report (numbers_met model well lists valid first_cost report no_dearer tries some solutions)
  where
    at_least : (x y : ℤ) → pos 0 ≤ℤ x → x ≤ℤ y → pos 0 ≤ℤ y
    at_least x y h k = omega (arith, ints, h, k)
