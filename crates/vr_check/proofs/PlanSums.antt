-- Sums over printed plans, beside those over the plans of an assignment.
use Rattle.std.proofs.Common.{◌≡◌, ℕ, zero, suc, ◌+◌, ◌-◌, ◌<◌, ◌≤◌, Bool, true, false, cond, not, List, [], ◌∷◌, length, map, Option, Some, None, refl, sym}
use Rattle.std.proofs.Common.{ap, ap₂, ◌∙◌, inl, inr, arith}
use Rattle.std.specs.Prelude.{ℤ, pos, ◌+ℤ◌, ◌-ℤ◌, ◌*ℤ◌, IsTrue, slice_index_or, nat_lt, filter, fold}
use Rattle.std.specs.Int.{int_max, int_min}
use Rattle.std.specs.List.{zip}
use Rattle.std.proofs.lemmas.Int.{ints}
use Rattle.std.proofs.lemmas.Bool.{cases_lt}
use Rattle.std.proofs.lemmas.List.{length-map}
use Rattle.vr_model.specs.tables.Numbers.{number_at, total_by, below, from_to}
use Rattle.vr_model.specs.tables.Tables.{dimension_at}
use Rattle.vr_model.specs.routes.Routes.{route, is_empty}
use Rattle.vr_model.specs.routes.Costs.{Assignment, start_at, end_at, greatest, least, global_span, over_plans, soft_costs, soft_part, span_part, row_cost}
use Rattle.vr_model.specs.schedules.Lines.{stop_rows}
use Rattle.vr_model.specs.schedules.Schedules.{cumul}
use Rattle.vr_model.specs.declared.records.Model.{Model}
use Rattle.vr_model.specs.declared.records.StopRow.{StopRow}
use Rattle.vr_model.proofs.tables.Ranges.{walk_begins, none_left}
use Rattle.vr_model.proofs.tables.Tests.{test_of_lt}
use Rattle.vr_model.proofs.tables.Totals.{sum_range, sum_same, sum_shift, sum_nothing, total_by-failing}
use Rattle.vr_printed.specs.Printed.{no_route, visits_of, lists_of, assignment_of}
use Rattle.vr_printed.specs.Shape.{plan_in, are_routes_shaped, is_route_shaped}
use Rattle.vr_printed.specs.declared.printed.PrintedRoute.{PrintedRoute}
use Rattle.vr_printed.proofs.Shaped.{lengths_of, plans_there, visits_long, route_shaped}
use Rattle.vr_check.specs.Terms.{soft_at, soft_along, soft_in, first_cumul, last_cumul, span_in, widened, ends_with, span_of_ends}
use Rattle.vr_check.specs.declared.spans.SpanEnds.{SpanEnds}
use Rattle.vr_check.proofs.PrintedLists.{route_is}
use Rattle.vr_check.proofs.Scheduled.{plan_is_printed, long_enough}
use Rattle.vr_check.proofs.Walks.{keeps, leaves_out}

-- ---- rows beside cumuls

abbrev row_in : List (Option StopRow) → ℕ → Option StopRow
row_in rows k = slice_index_or rows k None

no_row : (k : ℕ) → row_in [] k ≡ None
no_row zero = refl
no_row (suc k) = refl

soft_along_none : (cumuls : List ℤ) → soft_along [] cumuls ≡ pos 0
soft_along_none cumuls = sum_nothing (soft_at [] cumuls) 0 (length cumuls) (λ k from low. ap (λ row. row_cost row (number_at cumuls k)) (no_row k))

soft_along_rest : (row : Option StopRow) (rows : List (Option StopRow)) (x : ℤ) (xs : List ℤ)
    → soft_along rows xs ≡ sum_range (soft_at (row ∷ rows) (x ∷ xs)) 1 (length xs)
soft_along_rest row rows x xs = sym (
    sum_shift (soft_at (row ∷ rows) (x ∷ xs)) 1 0 (length xs)
    ∙ sum_same (λ k. soft_at (row ∷ rows) (x ∷ xs) (1 + k)) (soft_at rows xs) 0 (length xs)
    (λ k from low. (let e : 1 + k ≡ suc k = omega arith in ap (soft_at (row ∷ rows) (x ∷ xs)) e)))

-- a sum over two lists side by side is one over the places of the second
soft_by_places : (rows : List (Option StopRow)) (cumuls : List ℤ) → total_by (λ stop. row_cost stop.0 stop.1) (zip rows cumuls) ≡ soft_along rows cumuls
soft_by_places [] cumuls = sym (soft_along_none cumuls)
soft_by_places (row ∷ rows) [] = refl
soft_by_places (row ∷ rows) (x ∷ xs) = ap (λ s. row_cost row x +ℤ s) (soft_by_places rows xs ∙ soft_along_rest row rows x xs)

-- ---- used routes

no_visits : (list : List ℕ) → is_empty list ≡ true → length list ≡ 0
no_visits [] e = refl
no_visits (x ∷ xs) e = absurd (cc)

-- a route without visits has no plans
no_plans : (model : Model) (v : ℕ) (r : PrintedRoute) → IsTrue (is_route_shaped model v r) → length (visits_of r) ≡ 0 → length r.plans ≡ 0
no_plans model v r shaped none = elim (cases_lt 0 (length r.plans)) [
  | inl some ↦ absurd (let nodes = (lengths_of model v r shaped 0 some).nodes in omega (arith, none, nodes, visits_long r.nodes))
  | inr few ↦ omega (arith, few)
]

-- ---- the least start and the greatest end

abbrev pub greatest_from : Option SpanEnds → List ℤ → ℤ
greatest_from None xs = greatest xs
greatest_from (Some ends) xs = fold int_max ends.last xs

abbrev pub least_from : Option SpanEnds → List ℤ → ℤ
least_from None xs = least xs
least_from (Some ends) xs = fold int_min ends.first xs

-- the span of the ends so far and of further vehicles
abbrev pub span_from : Assignment → ℕ → Option SpanEnds → List ℕ → ℤ
span_from assignment d ends vs = greatest_from ends (map (end_at assignment d) vs) -ℤ least_from ends (map (start_at assignment d) vs)

span_opens : (assignment : Assignment) (d : ℕ) (ends : Option SpanEnds) (v : ℕ) (vs : List ℕ)
    → span_from assignment d ends (v ∷ vs) ≡ span_from assignment d (Some (widened ends (start_at assignment d v) (end_at assignment d v))) vs
span_opens assignment d None v vs = refl
span_opens assignment d (Some ends) v vs = refl

span_closes : (assignment : Assignment) (d : ℕ) (ends : Option SpanEnds) → span_from assignment d ends [] ≡ span_of_ends ends
span_closes assignment d None = omega (arith, ints)
span_closes assignment d (Some ends) = refl

not_less : (d : ℕ) → nat_lt d 0 ≡ false
not_less d = grind arith

-- vehicle v is used
abbrev pub is_used : List PrintedRoute → ℕ → Bool
is_used routes v = not (is_empty (route (lists_of routes) v))

-- the printed route of vehicle v
abbrev pub route_at : List PrintedRoute → ℕ → PrintedRoute
route_at routes v = slice_index_or routes v no_route

-- a sum over the plans of each printed route
abbrev pub over_printed : List PrintedRoute → (ℕ → PrintedRoute → ℕ → ℤ) → ℕ → ℤ
over_printed routes g v = total_by (g v (route_at routes v)) (below (length (route_at routes v).plans))

module _ (model : Model) (routes : List PrintedRoute) (shaped : IsTrue (are_routes_shaped model routes)) where
  shaped_at : (v : ℕ) → v < length routes → IsTrue (is_route_shaped model v (route_at routes v))
  shaped_at v low = route_shaped model routes shaped v low

  module _ (v : ℕ) (low : v < length routes) where
    -- an unused vehicle has no plans
    pub unused_plans : is_empty (route (lists_of routes) v) ≡ true → length (route_at routes v).plans ≡ 0
    unused_plans e =
        no_plans model v (route_at routes v) (shaped_at v low) (no_visits (visits_of (route_at routes v)) (sym (ap is_empty (route_is routes v)) ∙ e))

    -- a used one has one in each dimension
    pub used_plans : is_empty (route (lists_of routes) v) ≡ false → length (route_at routes v).plans ≡ length model.dimensions
    used_plans e =
        plans_there model v (route_at routes v) (shaped_at v low) (long_enough (visits_of (route_at routes v)) (sym (ap is_empty (route_is routes v)) ∙ e))

  -- a sum over used vehicles and dimensions is one over the plans that are printed
  pub over_plans_is : (f : ℕ → ℕ → ℤ) (g : ℕ → PrintedRoute → ℕ → ℤ)
      → ((d v : ℕ) → v < length routes → d < length (route_at routes v).plans → f d v ≡ g v (route_at routes v) d)
      → over_plans model (assignment_of routes) f ≡ total_by (over_printed routes g) (below (length routes))
  over_plans_is f g same =
      total_by-failing by_vehicle (λ v. is_empty (route (lists_of routes) v)) (below (length (lists_of routes)))
      ∙ ap (λ n. total_by (λ v. cond (is_empty (route (lists_of routes) v)) (pos 0) (by_vehicle v)) (below n)) (length-map routes visits_of)
      ∙ sum_same (λ v. cond (is_empty (route (lists_of routes) v)) (pos 0) (by_vehicle v)) (over_printed routes g)
      0 (length routes) (λ v from low. one v (omega (arith, low)) (is_empty (route (lists_of routes) v)) refl)
    where
      by_vehicle : ℕ → ℤ
      by_vehicle v = total_by (λ d. f d v) (below (length model.dimensions))

      one : (v : ℕ) → v < length routes → (b : Bool) → is_empty (route (lists_of routes) v) ≡ b
          → cond (is_empty (route (lists_of routes) v)) (pos 0) (by_vehicle v) ≡ over_printed routes g v
      one v low true e = ap (λ b. cond b (pos 0) (by_vehicle v)) e ∙ ap (λ n. total_by (g v (route_at routes v)) (below n)) (sym (unused_plans v low e))
      one v low false e =
          let planned = used_plans v low e in
          ap (λ b. cond b (pos 0) (by_vehicle v)) e
          ∙ sum_same (λ d. f d v) (g v (route_at routes v)) 0 (length model.dimensions) (λ d from less. same d v low (omega (arith, less, planned)))
          ∙ ap (λ n. total_by (g v (route_at routes v)) (below n)) (sym planned)

  -- ---- what soft bounds cost

  pub soft_is : soft_part model (assignment_of routes) ≡ total_by (over_printed routes (soft_in model)) (below (length routes))
  soft_is = over_plans_is (soft_costs model (assignment_of routes)) (soft_in model) (λ d v low less.
      ap₂ (λ list plan. total_by (λ stop. row_cost stop.0 stop.1) (zip (stop_rows (dimension_at model d) v list) plan.cumuls))
      (route_is routes v) (plan_is_printed routes d v)
      ∙ soft_by_places (stop_rows (dimension_at model d) v (visits_of (route_at routes v))) (plan_in (route_at routes v) d).cumuls)

  -- ---- starts and ends

  module _ (d v : ℕ) (low : v < length routes) (less : d < length (route_at routes v).plans) where
    pub start_is : start_at (assignment_of routes) d v ≡ first_cumul (plan_in (route_at routes v) d).cumuls
    start_is = ap (λ plan. cumul plan 0) (plan_is_printed routes d v)

    pub end_is : end_at (assignment_of routes) d v ≡ last_cumul (plan_in (route_at routes v) d).cumuls
    end_is =
        let lengths = lengths_of model v (route_at routes v) (shaped_at v low) d less in
        let place : suc (length (visits_of (route_at routes v))) ≡ length (plan_in (route_at routes v) d).cumuls - 1 =
        omega (arith, lengths.cumuls, lengths.nodes, visits_long (route_at routes v).nodes) in
        ap₂ (λ plan list. cumul plan (suc (length list))) (plan_is_printed routes d v) (route_is routes v)
        ∙ ap (number_at (plan_in (route_at routes v) d).cumuls) place

    -- a plan has a cumul
    pub cumuls_there : 0 < length (plan_in (route_at routes v) d).cumuls
    cumuls_there = let lengths = lengths_of model v (route_at routes v) (shaped_at v low) d less in omega (arith, lengths.cumuls, lengths.nodes)

  pub span_is : span_part model (assignment_of routes) ≡ total_by (over_printed routes (span_in model)) (below (length routes))
  span_is =
      over_plans_is (λ d v. number_at (dimension_at model d).span_costs v *ℤ (end_at (assignment_of routes) d v -ℤ start_at (assignment_of routes) d v))
      (span_in model) (λ d v low less.
      ap₂ (λ last first. number_at (dimension_at model d).span_costs v *ℤ (last -ℤ first)) (end_is d v low less) (start_is d v low less))

  -- ---- the span of all routes

  -- the ends of the routes so far, with those of further vehicles
  pub span_next : (d v : ℕ) → v < length routes → d < length model.dimensions → (ends : Option SpanEnds)
      → span_from (assignment_of routes) d (ends_with d ends (route_at routes v)) (filter (is_used routes) (from_to (v + 1) (length routes)))
      ≡ span_from (assignment_of routes) d ends (filter (is_used routes) (from_to v (length routes)))
  span_next d v low known ends = go (is_empty (route (lists_of routes) v)) refl
    where
      go : (b : Bool) → is_empty (route (lists_of routes) v) ≡ b
          → span_from (assignment_of routes) d (ends_with d ends (route_at routes v)) (filter (is_used routes) (from_to (v + 1) (length routes)))
          ≡ span_from (assignment_of routes) d ends (filter (is_used routes) (from_to v (length routes)))
      go true e =
          let none : nat_lt d (length (route_at routes v).plans) ≡ false = ap (nat_lt d) (unused_plans v low e) ∙ not_less d in
          let cumuls = (plan_in (route_at routes v) d).cumuls in
          ap (λ b. span_from (assignment_of routes) d (cond b (Some (widened ends (first_cumul cumuls) (last_cumul cumuls))) ends)
          (filter (is_used routes) (from_to (v + 1) (length routes)))) none
          ∙ ap (span_from (assignment_of routes) d ends) (sym (leaves_out (is_used routes) v (length routes) low (ap not e)))
      go false e =
          let less : d < length (route_at routes v).plans = omega (arith, known, used_plans v low e) in
          let some : nat_lt d (length (route_at routes v).plans) ≡ true = test_of_lt d (length (route_at routes v).plans) less in
          let cumuls = (plan_in (route_at routes v) d).cumuls in
          let rest = filter (is_used routes) (from_to (v + 1) (length routes)) in
          ap (λ b. span_from (assignment_of routes) d (cond b (Some (widened ends (first_cumul cumuls) (last_cumul cumuls))) ends) rest) some
          ∙ ap₂ (λ first last. span_from (assignment_of routes) d (Some (widened ends first last)) rest)
          (sym (start_is d v low less)) (sym (end_is d v low less))
          ∙ sym (span_opens (assignment_of routes) d ends v rest)
          ∙ ap (span_from (assignment_of routes) d ends) (sym (keeps (is_used routes) v (length routes) low (ap not e)))

  pub span_begins : (d : ℕ)
      → span_from (assignment_of routes) d None (filter (is_used routes) (from_to 0 (length routes))) ≡ global_span (assignment_of routes) d
  span_begins d =
      ap (λ n. span_from (assignment_of routes) d None (filter (is_used routes) (from_to 0 n))) (sym (length-map routes visits_of))
      ∙ ap (span_from (assignment_of routes) d None) (walk_begins (filter (is_used routes)) (length (lists_of routes)))

  pub span_done : (d v : ℕ) → length routes ≤ v → (ends : Option SpanEnds)
      → span_from (assignment_of routes) d ends (filter (is_used routes) (from_to v (length routes))) ≡ span_of_ends ends
  span_done d v high ends = ap (λ vs. span_from (assignment_of routes) d ends (filter (is_used routes) vs)) (none_left v (length routes) high)
      ∙ span_closes (assignment_of routes) d ends
