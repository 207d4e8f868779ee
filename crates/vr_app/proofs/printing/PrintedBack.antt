-- The solution that is read of the tree of an assignment: its shape, its lists and its plans.
use Rattle.std.proofs.Common.{◌≡◌, ◌∙◌, ℕ, suc, ◌+◌, ◌-◌, ◌<◌, ◌≤◌, ◌++◌, Bool, true, false, cond, List, [], ◌∷◌, map, length, take, refl, sym, ap, ap₂, subst}
use Rattle.std.proofs.Common.{arith, length-append}
use Rattle.std.specs.Prelude.{pos, ◌==◌, nat_le, IsTrue, slice_index_or, if◌then◌else◌}
use Rattle.std.specs.List.{list_all}
use Rattle.std.specs.Str.{bytes_eq}
use Rattle.std.proofs.Math.Seq.{take-append_seam}
use Rattle.std.proofs.lemmas.List.{length-map, get_or-map, ext_get_or, nil_from_length}
use Rattle.std.proofs.lemmas.Bool.{le-leb}
use Rattle.vr_model.specs.tables.Numbers.{below, is_same_number}
use Rattle.vr_model.specs.tables.Tables.{vehicle_at, dimension_at, breaks_of}
use Rattle.vr_model.specs.deciding.Testing.{and_both, test_of_eq, tests_of_eq, range_list_all}
use Rattle.vr_model.specs.schedules.Schedules.{Plan}
use Rattle.vr_model.specs.routes.Routes.{route, is_empty}
use Rattle.vr_model.specs.routes.Costs.{Assignment, plan_at, no_plan}
use Rattle.vr_model.specs.routes.AssignmentLaws.{HasPlans}
use Rattle.vr_model.specs.declared.records.Model.{Model}
use Rattle.vr_model.specs.declared.records.Dimension.{Dimension}
use Rattle.vr_model.proofs.tables.Tests.{clash, apart}
use Rattle.vr_print.specs.Solution.{route_nodes}
use Rattle.vr_printed.specs.Printed.{no_route, plan_of, visits_between, visits_of, plans_of, lists_of, assignment_of}
use Rattle.vr_printed.specs.Shape.{is_plan_shaped, no_printed_plan, plan_in, is_shaped_in, is_used_shaped, is_route_shaped, is_shaped_at, are_routes_shaped}
use Rattle.vr_printed.specs.declared.printed.PrintedRoute.{PrintedRoute}
use Rattle.vr_printed.specs.declared.printed.PrintedPlan.{PrintedPlan}
use Rattle.vr_check.proofs.PrintedLists.{route_is}
use Rattle.vr_app.proofs.printing.Below.{entry_below, length_below}
use Rattle.vr_app.proofs.printing.ReadBack.{plan_printed, plans_printed, route_printed}

-- the routes that are printed of an assignment
abbrev pub routes_printed : Model → Assignment → List PrintedRoute
routes_printed model assignment = map (route_printed model assignment) (below (length assignment.lists))

-- the lengths of the plan of a line: a cumul for each stop of a list, a slack for each arc, a start for each break
pub record FitsList (stops breaks : ℕ) (plan : Plan) : Type 0 where
  pub cumuls : length plan.cumuls ≡ stops + 2
  pub slacks : length plan.slacks ≡ stops + 1
  pub starts : length plan.breaks ≡ breaks

-- ---- nodes

pub between_ends : (model : Model) (v : ℕ) (list : List ℕ) → visits_between (route_nodes model v list) ≡ list
between_ends model v [] = refl
between_ends model v (x ∷ xs) =
    let list : List ℕ = x ∷ xs in
    let final : List ℕ = (vehicle_at model v).end ∷ [] in
    let count : suc (length (list ++ final)) - 2 ≡ length list = omega (arith, length-append list final) in
    ap (λ n. take n (list ++ final)) count ∙ take-append_seam list final

pub nodes_long : (model : Model) (v : ℕ) (list : List ℕ) → is_empty list ≡ false → length (route_nodes model v list) ≡ length list + 2
nodes_long model v [] some = absurd (clash true refl some)
nodes_long model v (x ∷ xs) some = omega (arith, length-append (x ∷ xs) ((vehicle_at model v).end ∷ []))

no_nodes : (model : Model) (v : ℕ) (list : List ℕ) → is_empty list ≡ true → length (route_nodes model v list) ≡ 0
no_nodes model v [] none = refl
no_nodes model v (x ∷ xs) none = absurd (clash false none refl)

some_visits : (list : List ℕ) → is_empty list ≡ false → 1 ≤ length list
some_visits [] some = absurd (clash true refl some)
some_visits (x ∷ xs) some = omega arith

-- ---- the shape

same_bytes : (xs : List ℕ) → bytes_eq xs xs ≡ true
same_bytes [] = refl
same_bytes (x ∷ xs) = and_both (x == x) _ (test_of_eq x x refl) (same_bytes xs)

unused : (n m : ℕ) (used : Bool) → n ≡ 0 → m ≡ 0 → IsTrue (cond (n == 0) (m == 0) used)
unused n m used e f = ap (λ b. cond b (m == 0) used) (test_of_eq n 0 e) ∙ test_of_eq m 0 f

used : (n m : ℕ) (shaped : Bool) → 1 ≤ n → IsTrue shaped → IsTrue (cond (n == 0) (m == 0) shaped)
used n m shaped some h = ap (λ b. cond b (m == 0) shaped) (apart n 0 (λ e. omega (arith, e, some))) ∙ h

plan_shaped : (dimension : Dimension) (v list_length : ℕ) (plan : Plan) → FitsList list_length (length (breaks_of dimension v)) plan
    → IsTrue (is_plan_shaped dimension v (list_length + 2) (record { name = dimension.name; cumuls = plan.cumuls; slacks = plan.slacks; breaks = plan.breaks }))
plan_shaped dimension v n plan fits =
    and_both (bytes_eq dimension.name dimension.name) _ (same_bytes dimension.name)
    (and_both (length plan.cumuls == n + 2) _ (test_of_eq _ _ fits.cumuls)
    (and_both (length plan.slacks == (n + 2) - 1) _ (test_of_eq _ _ (omega (arith, fits.slacks)))
    (test_of_eq _ _ fits.starts)))

module _ (model : Model) (assignment : Assignment) where
  abbrev lists : List (List ℕ)
  lists = assignment.lists

  -- the plan of a used vehicle in a dimension
  pub plan_in_is : (v d : ℕ) → d < length model.dimensions → is_empty (route lists v) ≡ false
      → plan_in (route_printed model assignment v) d ≡ plan_printed model assignment v d
  plan_in_is v d low some =
      ap (λ b. slice_index_or (if b then [] else map (plan_printed model assignment v) (below (length model.dimensions))) d no_printed_plan) some
      ∙ entry_below (plan_printed model assignment v) (length model.dimensions) d no_printed_plan low

  pub no_plans : (v : ℕ) → is_empty (route lists v) ≡ true → plans_printed model assignment v ≡ []
  no_plans v none = ap (λ b. if b then [] else map (plan_printed model assignment v) (below (length model.dimensions))) none

  pub plans_are : (v : ℕ) → is_empty (route lists v) ≡ false
      → plans_printed model assignment v ≡ map (plan_printed model assignment v) (below (length model.dimensions))
  plans_are v some = ap (λ b. if b then [] else map (plan_printed model assignment v) (below (length model.dimensions))) some

  -- the route of vehicle v
  pub route_at : (v : ℕ) → v < length lists → slice_index_or (routes_printed model assignment) v no_route ≡ route_printed model assignment v
  route_at v low = entry_below (route_printed model assignment) (length lists) v no_route low

  module _ (fits : (d v : ℕ) → d < length model.dimensions → v < length lists → is_empty (route lists v) ≡ false
      → FitsList (length (route lists v)) (length (breaks_of (dimension_at model d) v)) (plan_at assignment d v)) where
    plans_shaped : (v : ℕ) → v < length lists → is_empty (route lists v) ≡ false
        → IsTrue (list_all (is_shaped_in model v (route_printed model assignment v)) (below (length model.dimensions)))
    plans_shaped v low some = range_list_all (is_shaped_in model v (route_printed model assignment v)) 0 (length model.dimensions) (λ d from known.
        (let there : d < length model.dimensions = omega (arith, known) in
        let P : ℕ → PrintedPlan → Type 0 = λ stops plan. IsTrue (is_plan_shaped (dimension_at model d) v stops plan) in
        subst (P (length (route_nodes model v (route lists v)))) (sym (plan_in_is v d there some))
        (subst (λ n. P n (plan_printed model assignment v d)) (sym (nodes_long model v (route lists v) some))
        (plan_shaped (dimension_at model d) v (length (route lists v)) (plan_at assignment d v) (fits d v there low some)))))

    route_shaped : (v : ℕ) → v < length lists → IsTrue (is_route_shaped model v (route_printed model assignment v))
    route_shaped v low = and_both (is_same_number (pos v) (pos v)) _ (tests_of_eq (pos v) (pos v) refl) (by (is_empty (route lists v)) refl)
      where
        nodes : List ℕ
        nodes = route_nodes model v (route lists v)

        by : (b : Bool) → is_empty (route lists v) ≡ b
            → IsTrue (cond (length nodes == 0) (length (plans_printed model assignment v) == 0) (is_used_shaped model v (route_printed model assignment v)))
        by true e = unused (length nodes) (length (plans_printed model assignment v)) _ (no_nodes model v (route lists v) e) (ap length (no_plans v e))
        by false e =
            let long = nodes_long model v (route lists v) e in
            let some = some_visits (route lists v) e in
            used (length nodes) (length (plans_printed model assignment v)) _ (omega (arith, long))
            (and_both (nat_le 3 (length nodes)) _ (le-leb 3 (length nodes) (omega (arith, long, some)))
            (and_both (length (plans_printed model assignment v) == length model.dimensions) _
            (test_of_eq _ _ (ap length (plans_are v e) ∙ length_below (plan_printed model assignment v) (length model.dimensions))) (plans_shaped v low e)))

    pub routes_shaped : length lists ≡ length model.vehicles → IsTrue (are_routes_shaped model (routes_printed model assignment))
    routes_shaped all =
        let count = length_below (route_printed model assignment) (length lists) in
        and_both (length (routes_printed model assignment) == length model.vehicles) _ (test_of_eq _ _ (count ∙ all))
        (range_list_all (is_shaped_at model (routes_printed model assignment)) 0 (length (routes_printed model assignment)) (λ v from low.
        (let there : v < length lists = omega (arith, low, count) in
        subst (λ r. IsTrue (is_route_shaped model v r)) (sym (route_at v there)) (route_shaped v there))))

  -- ---- what is printed is the assignment

  pub lists_back : lists_of (routes_printed model assignment) ≡ lists
  lists_back =
      let routes : List PrintedRoute = routes_printed model assignment in
      let count = length-map routes visits_of ∙ length_below (route_printed model assignment) (length lists) in
      ext_get_or [] (lists_of routes) lists count (λ v low. (let there : v < length lists = omega (arith, low, count) in
      route_is routes v ∙ ap visits_of (route_at v there) ∙ between_ends model v (route lists v)))

  module _ (has : HasPlans model assignment) where
    plans_of_route : (v : ℕ) → v < length lists → plans_of (route_printed model assignment v) ≡ slice_index_or assignment.plans v []
    plans_of_route v low = by (is_empty (route lists v)) refl
      where
        made : List Plan
        made = slice_index_or assignment.plans v []

        by : (b : Bool) → is_empty (route lists v) ≡ b → map plan_of (plans_printed model assignment v) ≡ made
        by true e = ap (map plan_of) (no_plans v e) ∙ sym (nil_from_length made (has.in_each_dimension v low ∙ ap (λ b. cond b 0 (length model.dimensions)) e))
        by false e =
            let all : length made ≡ length model.dimensions = has.in_each_dimension v low ∙ ap (λ b. cond b 0 (length model.dimensions)) e in
            let plans : List PrintedPlan = map (plan_printed model assignment v) (below (length model.dimensions)) in
            let count : length plans ≡ length model.dimensions = length_below (plan_printed model assignment v) (length model.dimensions) in
            ap (map plan_of) (plans_are v e)
            ∙ ext_get_or no_plan (map plan_of plans) made (length-map plans plan_of ∙ count ∙ sym all)
            (λ d known. (let here : d < length model.dimensions = omega (arith, known, length-map plans plan_of, count) in
            get_or-map plan_of plans d no_printed_plan no_plan (omega (arith, here, count))
            ∙ ap plan_of (entry_below (plan_printed model assignment v) (length model.dimensions) d no_printed_plan here)))

    pub assignment_back : assignment_of (routes_printed model assignment) ≡ assignment
    assignment_back =
        let routes : List PrintedRoute = routes_printed model assignment in
        let count : length routes ≡ length lists = length_below (route_printed model assignment) (length lists) in
        let plans_back : map plans_of routes ≡ assignment.plans = ext_get_or [] (map plans_of routes)
        assignment.plans (length-map routes plans_of ∙ count ∙ sym has.of_each_vehicle)
        (λ v low. (let there : v < length lists = omega (arith, low, length-map routes plans_of, count) in
        get_or-map plans_of routes v no_route [] (omega (arith, there, count)) ∙ ap plans_of (route_at v there) ∙ plans_of_route v there)) in
        ap₂ (λ lists plans. record { lists = lists; plans = plans }) lists_back plans_back
