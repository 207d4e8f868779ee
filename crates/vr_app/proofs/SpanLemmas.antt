-- Trees of least spans: they are printed, and put together row by row.
use Rattle.std.proofs.Common.{◌≡◌, ◌∙◌, ◌≤◌, ◌<◌, ◌+◌, ◌-◌, ◌++◌, ℕ, ℤ, List, [], ◌∷◌, Bool, true, false, cond, not, Option, Some, refl, sym, ap, subst, arith}
use Rattle.std.proofs.Common.{map, length}
use Rattle.std.specs.Prelude.{IsSome, IsTrue, ◌==◌, ◌||◌, ◌-ℤ◌, option_map, slice_index_or, unwrap_or}
use Rattle.std.specs.List.{find, flat_map, list_all, list_any}
use Rattle.std.proofs.lemmas.Grind.{flat_map-append}
use Rattle.std.proofs.lemmas.List.{append-nil, length-map, map-append}
use Rattle.std.proofs.lemmas.List.Elements.{filter-append}
use Rattle.serde_json.specs.Data.{Data, depth, items_depth}
use Rattle.serde_json.specs.View.{items_of}
use Rattle.serde_json.specs.Written.{has_float, items_have_float}
use Rattle.vr_check.proofs.AllMet.{met_keeps_all_rules}
use Rattle.vr_check.proofs.Lines.{line_arcs, line_stops}
use Rattle.vr_check.proofs.PrintedLists.{route_is}
use Rattle.vr_check.proofs.Scheduled.{long_enough, plan_is_printed}
use Rattle.vr_check.specs.Laws.{KeepsAllRules}
use Rattle.vr_model.specs.tables.ModelRules.{has_breaks}
use Rattle.vr_model.specs.tables.Numbers.{below, each, number_at}
use Rattle.vr_model.specs.tables.Tables.{breaks_of, dimension_at, is_visit}
use Rattle.vr_model.specs.tables.WellFormed.{IsWellFormed}
use Rattle.vr_model.specs.routes.AssignmentLaws.{MeetsItsLines}
use Rattle.vr_model.specs.routes.Costs.{Assignment, no_plan, plan_at}
use Rattle.vr_model.specs.routes.Routes.{is_distinct, is_empty, route, vehicles}
use Rattle.vr_model.specs.schedules.Lines.{Line, line}
use Rattle.vr_model.specs.schedules.Schedules.{Plan, IsSchedule, span}
use Rattle.vr_model.specs.declared.records.BreakRow.{BreakRow}
use Rattle.vr_model.specs.declared.records.Dimension.{Dimension}
use Rattle.vr_model.specs.declared.records.Model.{Model}
use Rattle.vr_model.specs.declared.records.VehicleBreaks.{VehicleBreaks}
use Rattle.vr_model.proofs.routes.Lists.{are-lists, are_lists-count, route-distinct, route-visits}
use Rattle.vr_model.proofs.tables.Ranges.{below-more}
use Rattle.vr_model.proofs.tables.Tests.{or-false_left, or-false_right}
use Rattle.vr_print.proofs.TreeLemmas.{flat_wholes, is_float-whole, no_float_wholes}
use Rattle.vr_printed.proofs.Shaped.{plans_there, printed_shaped, route_shaped, routes_count}
use Rattle.vr_printed.specs.Printed.{assignment_of, lists_of, no_route, visits_of}
use Rattle.vr_printed.specs.Shape.{are_routes_shaped, printed_in}
use Rattle.vr_printed.specs.declared.printed.Printed.{Printed}
use Rattle.vr_printed.specs.declared.printed.PrintedRoute.{PrintedRoute}
use Rattle.vr_app.specs.Checked.{Checked}
use Rattle.vr_app.specs.Shortest.{shortest, shortest_plan}
use Rattle.vr_app.specs.Spans.{ReportsShortest, printed_assignment, span_at, span_beside, span_row, span_rows, span_tree, spans_in, spans_of, spans_tree}
use Rattle.vr_app.specs.Spans.{spans_with, reported_spans, without_breaks}
use Rattle.vr_app.specs.Scheduled.{AreScheduled, HasSchedules, IsMetIn, printed_plans}
use Rattle.vr_app.proofs.GeneratedLemmas.{depth_items, no_float_items}
use Rattle.vr_app.proofs.ReplyLemmas.{IsPrintable}
use Rattle.vr_app.proofs.ShortestLemmas.{shortest_there}

-- ---- no float stands in such a tree, and it is not deep

no_float_row : (dimension : Dimension) (v : ℕ) (plan : Plan) (least printed : ℤ) → has_float (span_tree dimension v plan least printed) ≡ false
unfolding span_tree
no_float_row dimension v plan least printed = simp (no_float_wholes, is_float-whole)

depth_row : (dimension : Dimension) (v : ℕ) (plan : Plan) (least printed : ℤ) → depth (span_tree dimension v plan least printed) ≤ 2
unfolding span_tree
depth_row dimension v plan least printed = omega (arith, flat_wholes plan.cumuls, flat_wholes plan.slacks)

or_parts : (a b : Bool) → (a || b) ≡ false → (a ≡ false) × (b ≡ false)
or_parts true b h = absurd cc
or_parts false b h = (refl, h)

no_float_both : (xs ys : List Data) → items_have_float (items_of xs) ≡ false
    → items_have_float (items_of ys) ≡ false → items_have_float (items_of (xs ++ ys)) ≡ false
no_float_both [] ys h g = g
no_float_both (x ∷ xs) ys h g = let p = or_parts (has_float x) (items_have_float (items_of xs)) h in rw p.0 (no_float_both xs ys p.1 g)

depth_both : (n : ℕ) (xs ys : List Data) → items_depth (items_of xs) ≤ n → items_depth (items_of ys) ≤ n → items_depth (items_of (xs ++ ys)) ≤ n
depth_both n [] ys h g = g
depth_both n (x ∷ xs) ys h g = let rest = depth_both n xs ys (omega (arith, h)) g in omega (arith, h, rest)

module _ (model : Model) (assignment : Assignment) where
  no_float_rows : (v : ℕ) → items_have_float (items_of (span_rows model assignment v)) ≡ false
  no_float_rows v = by (is_empty (route assignment.lists v))
    where
      by : (b : Bool) → items_have_float
          (items_of (cond b [] (spans_in model v (route assignment.lists v) (λ d. plan_at assignment d v) (below (length model.dimensions))))) ≡ false
      by true = refl
      by false = no_float_items (span_at model v (route assignment.lists v) (λ d. plan_at assignment d v))
          (λ d. no_float_row _ v _ _ _) (without_breaks model (below (length model.dimensions)))

  depth_rows : (v : ℕ) → items_depth (items_of (span_rows model assignment v)) ≤ 2
  depth_rows v = by (is_empty (route assignment.lists v))
    where
      by : (b : Bool)
          → items_depth (items_of (cond b [] (spans_in model v (route assignment.lists v) (λ d. plan_at assignment d v) (below (length model.dimensions))))) ≤ 2
      by true = omega arith
      by false = depth_items (span_at model v (route assignment.lists v) (λ d. plan_at assignment d v))
          2 (λ d. depth_row _ v _ _ _) (without_breaks model (below (length model.dimensions)))

  no_float_all : (vs : List ℕ) → items_have_float (items_of (each vs (span_rows model assignment))) ≡ false
  no_float_all [] = refl
  no_float_all (v ∷ vs) = no_float_both (span_rows model assignment v) (each vs (span_rows model assignment)) (no_float_rows v) (no_float_all vs)

  depth_all : (vs : List ℕ) → items_depth (items_of (each vs (span_rows model assignment))) ≤ 2
  depth_all [] = omega arith
  depth_all (v ∷ vs) = depth_both 2 (span_rows model assignment v) (each vs (span_rows model assignment)) (depth_rows v) (depth_all vs)

  spans-printable : IsPrintable (spans_tree model assignment)
  unfolding spans_tree reported_spans
  spans-printable = record {
    whole = simp (no_float_all (vehicles assignment.lists));
    nested = omega (arith, depth_all (vehicles assignment.lists));
  }

pub spans_of-printable : (it : Checked) → IsPrintable (spans_of it)
unfolding spans_of
spans_of-printable it = spans-printable it.model (printed_assignment (printed_in it.model it.solution))

-- ---- one row

-- how long a plan takes is its last cumul less its first
pub span_is : (its : Line) (plan : Plan) → length its.allowed ≡ length its.arcs + 1 → IsSchedule its plan
    → number_at plan.cumuls (length plan.cumuls - 1) -ℤ number_at plan.cumuls 0 ≡ span its plan
span_is its plan stops is =
    let last : length plan.cumuls - 1 ≡ length its.arcs = omega (arith, is.cumul_of_each_stop, stops) in
    ap (λ k. number_at plan.cumuls k -ℤ number_at plan.cumuls 0) last

pub line_stops_behind : (model : Model) (d v : ℕ) (list : List ℕ) → length (line model d v list).allowed ≡ length (line model d v list).arcs + 1
line_stops_behind model d v list = omega (arith, line_stops model d v list, line_arcs model d v list)

-- what is reported of a line by its shortest schedule
pub row_is : (dimension other : Dimension) (v : ℕ) (its : Line) (printed plan : Plan) (least took : ℤ) (tree : Data)
    → tree ≡ span_tree dimension v plan least took → dimension ≡ other → shortest its ≡ Some plan → least ≡ span its plan → took ≡ span its printed
    → tree ≡ span_row other v its printed
row_is dimension other v its printed plan least took tree is same found least_is took_is =
    is ∙ ap (λ dimension. span_tree dimension v plan least took) same
    ∙ ap (λ x. span_tree other v plan x took) least_is
    ∙ ap (λ x. span_tree other v plan (span its plan) x) took_is
    ∙ ap (λ o. span_beside other v its printed (unwrap_or o no_plan)) (sym found)

-- ---- row by row

-- one dimension more
pub spans_more : (model : Model) (v : ℕ) (list : List ℕ) (plans : ℕ → Plan) (d : ℕ)
    → spans_in model v list plans (below (d + 1)) ≡ spans_in model v list plans (below d) ++ spans_in model v list plans (d ∷ [])
spans_more model v list plans d =
    ap (spans_in model v list plans) (below-more d)
    ∙ ap (map (span_at model v list plans)) (filter-append (λ d. not (has_breaks (dimension_at model d))) (below d) (d ∷ []))
    ∙ map-append (span_at model v list plans) (without_breaks model (below d)) (without_breaks model (d ∷ []))

-- of a dimension in which no vehicle has breaks there is one row
pub one-row : (model : Model) (v d : ℕ) (list : List ℕ) (plans : ℕ → Plan) → has_breaks (dimension_at model d) ≡ false
    → spans_in model v list plans (d ∷ []) ≡ span_at model v list plans d ∷ []
one-row model v d list plans none = ap (λ b. map (span_at model v list plans) (cond (not b) (d ∷ []) [])) none

-- one vehicle more
pub rows_more : (model : Model) (assignment : Assignment) (v : ℕ)
    → each (below (v + 1)) (span_rows model assignment) ≡ each (below v) (span_rows model assignment) ++ span_rows model assignment v
rows_more model assignment v =
    ap (flat_map (span_rows model assignment)) (below-more v)
    ∙ flat_map-append (span_rows model assignment) (below v) (v ∷ [])
    ∙ ap (λ rows. each (below v) (span_rows model assignment) ++ rows) (append-nil (span_rows model assignment v))

with_plans : (model : Model) (v : ℕ) (list : List ℕ) (plans others : ℕ → Plan)
    → ((d : ℕ) → plans d ≡ others d) → spans_with model v list plans ≡ spans_with model v list others
with_plans model v list plans others same = λ i. spans_with model v list (λ d. same d i)

-- what is reported of a printed route is what is reported of the vehicle in the assignment
pub rows_are : (model : Model) (routes : List PrintedRoute) (v : ℕ) (r : PrintedRoute) (list : List ℕ)
    → r ≡ slice_index_or routes v no_route → list ≡ route (lists_of routes) v
    → spans_with model v list (printed_plans r) ≡ span_rows model (assignment_of routes) v
rows_are model routes v r list r_is list_is =
    let plans : (d : ℕ) → printed_plans r d ≡ plan_at (assignment_of routes) d v =
    λ d. ap (λ r. printed_plans r d) r_is ∙ sym (plan_is_printed routes d v) in
    ap (λ list. spans_with model v list (printed_plans r)) list_is
    ∙ with_plans model v (route (lists_of routes) v) (printed_plans r) (λ d. plan_at (assignment_of routes) d v) plans

-- a dimension in which no vehicle has breaks has none of any vehicle
pub no-breaks : (dimension : Dimension) → has_breaks dimension ≡ false → (v : ℕ) → breaks_of dimension v ≡ []
no-breaks dimension none v = go dimension.breaks none
  where
    empty : (rows : List BreakRow) → not (is_empty rows) ≡ false → rows ≡ []
    empty [] h = refl
    empty (row ∷ rows) h = absurd cc

    here : (b : Bool) (entry : VehicleBreaks) (found : Option VehicleBreaks) → entry.rows ≡ [] → unwrap_or (option_map (λ entry. entry.rows) found) [] ≡ []
        → unwrap_or (option_map (λ entry. entry.rows) (cond b (Some entry) found)) [] ≡ []
    here true entry found first rest = first
    here false entry found first rest = rest

    go : (entries : List VehicleBreaks) → list_any (λ entry. not (is_empty entry.rows)) entries ≡ false
        → unwrap_or (option_map (λ entry. entry.rows) (find (λ entry. entry.vehicle == v) entries)) [] ≡ []
    go [] h = refl
    go (entry ∷ entries) h = here (entry.vehicle == v) entry (find (λ entry. entry.vehicle == v) entries)
        (empty entry.rows (or-false_left _ _ h)) (go entries (or-false_right (not (is_empty entry.rows)) _ h))

-- ---- a solution that meets the rules has schedules

module _ (model : Model) (printed : Printed) (cost : ℤ)
    (shaped : IsTrue (are_routes_shaped model printed.routes)) (keeps : KeepsAllRules model printed cost) where
  used : (v : ℕ) → v < length printed.routes → is_empty (visits_of (slice_index_or printed.routes v no_route)) ≡ false
      → HasSchedules model v (slice_index_or printed.routes v no_route) (visits_of (slice_index_or printed.routes v no_route))
  used v low visited =
      let routes = printed.routes in
      let r = slice_index_or routes v no_route in
      let lists = lists_of routes in
      let are = are-lists model lists keeps.lists_valid in
      let some = long_enough (visits_of r) visited in
      let same : route lists v ≡ visits_of r = route_is routes v in
      let known : v < length lists = omega (arith, low, length-map routes visits_of) in
      record {
        vehicle = omega (arith, known, are_lists-count model lists are);
        some = some;
        visits = subst (λ list. IsTrue (list_all (is_visit model) list)) same (route-visits model lists v are);
        distinct = subst (λ list. IsTrue (is_distinct list)) same (route-distinct model lists v are);
        plans = plans_there model v r (route_shaped model routes shaped v low) some;
        schedules = λ d less.
            subst (IsSchedule (line model d v (visits_of r))) (plan_is_printed routes d v)
            (subst (λ list. IsSchedule (line model d v list) (plan_at (assignment_of routes) d v)) same
            (keeps.plans_are_schedules d v less known (ap is_empty same ∙ visited)));
      }

  scheduled : AreScheduled model printed.routes
  scheduled = record { of_each_vehicle = routes_count model printed.routes shaped; of_used = used }

-- of a solution that meets the rules, the printed one is there and has schedules
pub met_printed : (model : Model) (d : Data) → IsWellFormed model → IsMetIn model d
    → (printed : Printed) × (printed_in model d ≡ Some printed) × AreScheduled model printed.routes
met_printed model d well met =
    let k = met_keeps_all_rules model d met.0 well met.1 in
    (k.0, k.1, scheduled model k.0 met.0 (printed_shaped model d k.0 k.1) k.2)

pub printed_some : (model : Model) (d : Data) → IsWellFormed model → IsMetIn model d → (o : Option Printed) → o ≡ printed_in model d → IsSome o
printed_some model d well met o is = let k = met_printed model d well met in subst IsSome (sym (is ∙ k.1)) refl

pub printed_scheduled : (model : Model) (d : Data) → IsWellFormed model → IsMetIn model d
    → (printed : Printed) → printed_in model d ≡ Some printed → AreScheduled model printed.routes
printed_scheduled model d well met printed is =
    let k = met_printed model d well met in
    let same : k.0 ≡ printed = let e = sym k.1 ∙ is in cc in
    subst (λ (printed : Printed). AreScheduled model printed.routes) same k.2

-- ---- what is read of routes and lists

module _ (model : Model) (routes : List PrintedRoute) (lists : List (List ℕ)) (v : ℕ) where
  pub read_low : lists ≡ lists_of routes → v < length lists → v < length routes
  read_low are low = omega (arith, low, ap length are, length-map routes visits_of)

  pub few_routes : IsWellFormed model → AreScheduled model routes → lists ≡ lists_of routes → v < length lists → v < 4294967296
  few_routes well all are low = omega (arith, read_low are low, all.of_each_vehicle, well.number_of_vehicles.at_most)

  pub read_list : lists ≡ lists_of routes → (list : List ℕ) → list ≡ route lists v → list ≡ visits_of (slice_index_or routes v no_route)
  read_list are list is = is ∙ ap (λ lists. route lists v) are ∙ route_is routes v

  pub read_scheduled : AreScheduled model routes → lists ≡ lists_of routes → v < length lists → (r : PrintedRoute) (list : List ℕ)
      → r ≡ slice_index_or routes v no_route → list ≡ route lists v → is_empty list ≡ false → HasSchedules model v r list
  read_scheduled all are low r list r_is is some =
      let same = read_list are list is in
      let P : PrintedRoute → Type 0 = λ r. HasSchedules model v r list in
      subst P (sym r_is)
      (subst (HasSchedules model v (slice_index_or routes v no_route)) (sym same) (all.of_used v (read_low are low) (ap is_empty (sym same) ∙ some)))

-- lines with schedules have shortest ones
pub reports_shortest : (model : Model) (assignment : Assignment) → MeetsItsLines model assignment → ReportsShortest model assignment
reports_shortest model assignment meets v d known low visited =
    let its = line model d v (route assignment.lists v) in
    (shortest_plan its, shortest_there its (plan_at assignment d v, meets d v low known visited), refl)
