-- The bounds of the parts of the cost of valid lists.
use Rattle.std.proofs.Common.{◌≡◌, ℕ, zero, suc, ◌+◌, ◌*◌, ◌<◌, ◌≤◌, ◌⊎◌, Bool, true, false, cond, not, List, [], ◌∷◌, ◌++◌, length, map, Option, Some, None}
use Rattle.std.proofs.Common.{refl, sym, ap, subst, inl, inr, arith}
use Rattle.std.specs.Prelude.{ℤ, pos, ◌-ℤ◌, ◌*ℤ◌, ◌≤ℤ◌, ◌||◌, ◌==◌, IsTrue, All, slice_index_or}
use Rattle.std.specs.Int.{int_max}
use Rattle.std.specs.List.{concat, list_all, list_any, zip}
use Rattle.std.proofs.lemmas.Int.{ints, int_max_is}
use Rattle.std.proofs.lemmas.List.{length-append, length-map, get_or_default}
use Rattle.std.proofs.lemmas.List.Folds.{list_any_at}
use Rattle.std.proofs.Math.Nat.{mul-le-mul_right}
use Rattle.vr_model.specs.tables.Numbers.{total_by, below, number_at, within, horizon, is_same_number}
use Rattle.vr_model.specs.tables.Tables.{no_vehicle, no_dimension, vehicle_at, dimension_at, is_visit, row_of}
use Rattle.vr_model.specs.tables.ModelRules.{has_breaks, has_span_costs}
use Rattle.vr_model.specs.tables.WellFormed.{IsSoft, IsStopRow, IsGroup, IsDimension, IsWellFormed, WherePresent}
use Rattle.vr_model.specs.routes.Routes.{route, is_empty, is_distinct, are_lists, vehicles, used_vehicles, arcs_from, cost_of_arc, route_cost}
use Rattle.vr_model.specs.routes.Rules.{fits_group, active_in, is_open, is_route_open, is_valid}
use Rattle.vr_model.specs.routes.Costs.{assigned, plan_at, start_at, end_at, greatest, least, arcs_part, fixed_part, global_span, global_part, penalty_for}
use Rattle.vr_model.specs.routes.Costs.{penalty_part, soft_cost, row_cost, over_plans, soft_costs, soft_part, span_part}
use Rattle.vr_model.specs.schedules.Lines.{line, stop_rows}
use Rattle.vr_model.specs.schedules.Schedules.{IsSchedule, cumul}
use Rattle.vr_model.specs.deciding.Testing.{and_left, and_right, or_left, or_right, within_is, eq_of_tests}
use Rattle.vr_model.specs.declared.records.Model.{Model}
use Rattle.vr_model.specs.declared.records.Group.{Group}
use Rattle.vr_model.specs.declared.records.Soft.{Soft}
use Rattle.vr_model.specs.declared.records.StopRow.{StopRow}
use Rattle.vr_model.proofs.tables.Tests.{fails_not, all-from_list_all, nat_of_test}
use Rattle.vr_model.proofs.tables.Totals.{sum_range, total_by-failing}
use Rattle.vr_model.proofs.tables.Members.{In, of_filter, of_below}
use Rattle.vr_model.proofs.tables.Bounds.{arc_cost_in_range}
use Rattle.vr_model.proofs.schedules.LinesSound.{found_is, arcs_long, line_sound, line_forward}
use Rattle.vr_model.proofs.routes.Lists.{are-lists, are_lists-count, route-below, route-visits, route-distinct, visits-few}
use Rattle.vr_model.proofs.routes.Assigned.{open_meets_its_lines}
use Rattle.vr_model.proofs.routes.Bounded.{IsUpTo, up_to-more, up_to-zero, up_to-cond, lists-up_to, range-up_to, total-up_to, product-up_to, fold-max_least}
use Rattle.vr_model.proofs.routes.Bounded.{fold-max_most, fold-min_most, fold-min_least}

all-push : {A : Type 0} (P : A → Type 0) (xs : List A) (x : A) → All P xs → P x → All P (xs ++ x ∷ [])
all-push P [] x each last zero d low = last
all-push P [] x each last (suc k) d low = absurd (omega (arith, low))
all-push P (y ∷ ys) x each last zero d low = each 0 d (omega arith)
all-push P (y ∷ ys) x each last (suc k) d low = all-push P ys x (λ j e l. each (suc j) e (omega (arith, l))) last k d (omega (arith, low))

all-cons : {A : Type 0} (P : A → Type 0) (x : A) (xs : List A) → P x → All P xs → All P (x ∷ xs)
all-cons P x xs first each zero d low = first
all-cons P x xs first each (suc k) d low = each k d (omega (arith, low))

-- ---- what one stop costs by its row

soft-up_to : (soft : Option Soft) (x : ℤ) → WherePresent IsSoft soft → x ≤ℤ horizon → IsUpTo (10000 * 68719476736) (soft_cost soft x)
soft-up_to None x is high = up_to-zero _
soft-up_to (Some soft) x is high =
    let m = int_max_is (pos 0) (x -ℤ soft.bound) in
    let low = is.bound_in_range.at_least in
    let over : int_max (pos 0) (x -ℤ soft.bound) ≤ℤ pos 68719476736 = omega (arith, ints, m, high, low) in
    product-up_to 10000 68719476736 soft.coefficient (int_max (pos 0) (x -ℤ soft.bound)) is.coefficient_in_range over (inr (omega (arith, ints, m)))

row-up_to : (row : Option StopRow) (x : ℤ) → WherePresent IsStopRow row → x ≤ℤ horizon → IsUpTo (10000 * 68719476736) (row_cost row x)
row-up_to None x is high = up_to-zero _
row-up_to (Some row) x is high = soft-up_to row.soft x is.soft_in_range high

zip-up_to : (rows : List (Option StopRow)) (cumuls : List ℤ) → All (WherePresent IsStopRow) rows → All (λ x. x ≤ℤ horizon) cumuls
    → IsUpTo (length rows * (10000 * 68719476736)) (total_by (λ stop. row_cost stop.0 stop.1) (zip rows cumuls))
zip-up_to [] [] is high = up_to-zero _
zip-up_to [] (x ∷ xs) is high = up_to-zero _
zip-up_to (row ∷ rows) [] is high = up_to-zero _
zip-up_to (row ∷ rows) (x ∷ xs) is high =
    let here = row-up_to row x (is 0 row (omega arith)) (high 0 x (omega arith)) in
    let later = zip-up_to rows xs (λ k d low. is (suc k) d (omega (arith, low))) (λ k d low. high (suc k) d (omega (arith, low))) in
    record { at_least = omega (arith, ints, here.at_least, later.at_least); at_most = omega (arith, ints, here.at_most, later.at_most) }

-- ---- valid lists

module _ (model : Model) (well : IsWellFormed model) (lists : List (List ℕ)) (valid : IsTrue (is_valid model lists)) where
  are : are_lists model lists ≡ true
  are = are-lists model lists valid

  many : length lists ≡ length model.vehicles
  many = are_lists-count model lists are

  few : length (concat lists) ≤ 1000
  few = let f = visits-few model lists are in let n = well.number_of_nodes.1 in omega (arith, f, n)

  fleet : length lists ≤ 100
  fleet = let n = well.number_of_vehicles.at_most in let m = many in omega (arith, n, m)

  vehicle_of : (v : ℕ) → v < length lists → v < length model.vehicles
  vehicle_of v low = let m = many in omega (arith, low, m)

  opened : IsTrue (is_open model lists)
  unfolding is_valid
  opened = and_left (is_open model lists) _ (and_right (are_lists model lists) _ valid)

  -- ---- arcs

  path-up_to : (v node : ℕ) (nodes : List ℕ) → v < length model.vehicles → node < model.nodes → All (λ x. x < model.nodes) nodes
      → IsUpTo (length nodes * 1099511627776) (total_by (cost_of_arc model) (arcs_from v node nodes))
  path-up_to v node [] known low each = up_to-zero _
  path-up_to v node (next ∷ rest) known low each =
      let next_low = each 0 next (omega arith) in
      let here = arc_cost_in_range model well v node next known low next_low in
      let later = path-up_to v next rest known next_low (λ k d l. each (suc k) d (omega (arith, l))) in
      record { at_least = omega (arith, ints, here.at_least, later.at_least); at_most = omega (arith, ints, here.at_most, later.at_most) }

  route-up_to : (v : ℕ) (list : List ℕ) → v < length model.vehicles → All (λ x. x < model.nodes) list
      → IsUpTo ((length list + 1) * 1099511627776) (route_cost model v list)
  route-up_to v [] known each = up_to-zero _
  route-up_to v (x ∷ xs) known each =
      let vehicle = well.each_vehicle v no_vehicle known in
      subst (λ n. IsUpTo (n * 1099511627776) (route_cost model v (x ∷ xs))) (length-append (x ∷ xs) ((vehicle_at model v).end ∷ []))
      (path-up_to v (vehicle_at model v).start ((x ∷ xs) ++ (vehicle_at model v).end ∷ []) known vehicle.start_in_range
      (all-push (λ node. node < model.nodes) (x ∷ xs) (vehicle_at model v).end each vehicle.end_in_range))

  pub arcs-up_to : IsUpTo (1100 * 1099511627776) (arcs_part model lists)
  arcs-up_to = up_to-more (arcs_part model lists)
      (lists-up_to lists (λ v. route_cost model v (route lists v)) 1 1099511627776
      (λ v low. route-up_to v (route lists v) (vehicle_of v low) (route-below model lists v are)))
      (let a = few in let b = fleet in omega (arith, a, b))

  -- ---- fixed costs

  pub fixed-up_to : IsUpTo (100 * 1099511627776) (fixed_part model lists)
  fixed-up_to =
      subst (IsUpTo (100 * 1099511627776)) (sym (total_by-failing (λ v. (vehicle_at model v).fixed) (λ v. is_empty (route lists v)) (below (length lists))))
      (up_to-more _ (range-up_to (λ v. cond (is_empty (route lists v)) (pos 0) (vehicle_at model v).fixed) 1099511627776 (length lists)
      (λ v low. up_to-cond 1099511627776 (is_empty (route lists v)) (vehicle_at model v).fixed
      (λ used. (well.each_vehicle v no_vehicle (vehicle_of v low)).fixed_in_range)))
      (let b = fleet in omega (arith, b)))

  -- ---- penalties

  penalty-up_to : (group : Group) → IsGroup model group → IsTrue (fits_group lists group)
      → IsUpTo (1099511627776 * 1000) (penalty_for group.penalty group.max (active_in lists group))
  penalty-up_to group is fits = go group.penalty is.penalty_in_range
    where
      go : (penalty : Option ℤ) → WherePresent (IsUpTo 1099511627776) penalty
          → IsUpTo (1099511627776 * 1000) (penalty_for penalty group.max (active_in lists group))
      go None h = up_to-zero _
      go (Some p) h =
          let f = nat_of_test (active_in lists group) group.max fits in
          let m = is.max_in_range.1 in
          let n = is.number_of_nodes.at_most in
          product-up_to 1099511627776 1000 p (pos group.max -ℤ pos (active_in lists group)) h (omega (arith, ints, f, m, n)) (inr (omega (arith, ints, f)))

  fitting : IsTrue (list_all (fits_group lists) model.groups)
  unfolding is_open
  fitting = and_right (list_all (λ v. is_route_open model v (route lists v)) (vehicles lists)) (list_all (fits_group lists) model.groups) opened

  pub penalties-up_to : IsUpTo (1000 * (1099511627776 * 1000)) (penalty_part model lists)
  penalties-up_to =
      let each = all-from_list_all (fits_group lists) model.groups fitting in
      let n = well.number_of_groups in
      up_to-more (penalty_part model lists)
      (total-up_to (λ group. penalty_for group.penalty group.max (active_in lists group)) (1099511627776 * 1000) model.groups
      (λ k d low. penalty-up_to (slice_index_or model.groups k d) (well.each_group k d low) (each k d low))) (omega (arith, n))

  -- ---- plans

  module _ (d v : ℕ) (dimension : d < length model.dimensions) (known : v < length lists) (used : is_empty (route lists v) ≡ false) where
    of_dimension : IsDimension model (dimension_at model d)
    of_dimension = well.each_dimension d no_dimension dimension

    meets : IsSchedule (line model d v (route lists v)) (plan_at (assigned model lists) d v)
    meets = open_meets_its_lines model lists opened d v dimension known used

    visits : IsTrue (list_all (is_visit model) (route lists v))
    visits = route-visits model lists v are

    distinct : IsTrue (is_distinct (route lists v))
    distinct = route-distinct model lists v are

    stops : length (plan_at (assigned model lists) d v).cumuls ≡ length (route lists v) + 2
    stops =
        let s = (line_sound model well d v dimension (vehicle_of v known) (route lists v) used visits distinct).stops in
        let a = arcs_are in
        let c = meets.cumul_of_each_stop in
        omega (arith, s, a, c)
      where
        arcs_are : length (line model d v (route lists v)).arcs ≡ length (route lists v) + 1
        arcs_are = arcs_long model well d v dimension (vehicle_of v known) (route lists v) used visits distinct

    cumul-up_to : (k : ℕ) → k < length (route lists v) + 2 → IsUpTo 68719476736 (cumul (plan_at (assigned model lists) d v) k)
    cumul-up_to k low =
        let s = stops in let c = meets.cumul_of_each_stop in
        let h = within_is (pos 0) horizon (cumul (plan_at (assigned model lists) d v) k)
        (and_left (within (pos 0) horizon (cumul (plan_at (assigned model lists) d v) k)) _ (meets.cumuls_allowed k (omega (arith, low, s, c)))) in
        record { at_least = h.0; at_most = h.1 }

    -- what the stops cost by their soft bounds
    pub softs-up_to : IsUpTo ((length (route lists v) + 2) * (10000 * 68719476736)) (soft_costs model (assigned model lists) d v)
    softs-up_to = subst (λ n. IsUpTo (n * (10000 * 68719476736)) (soft_costs model (assigned model lists) d v)) rows_many
        (zip-up_to (stop_rows (dimension_at model d) v (route lists v)) (plan_at (assigned model lists) d v).cumuls rows high)
      where
        rows_many : length (stop_rows (dimension_at model d) v (route lists v)) ≡ length (route lists v) + 2
        rows_many =
            let m = length-map (route lists v) (row_of (dimension_at model d).nodes) in
            let a = length-append (map (row_of (dimension_at model d).nodes) (route lists v)) (row_of (dimension_at model d).ends v ∷ []) in
            omega (arith, m, a)

        rows : All (WherePresent IsStopRow) (stop_rows (dimension_at model d) v (route lists v))
        rows =
            all-cons (WherePresent IsStopRow) _ _ (found_is IsStopRow (λ row. row.key == v) (dimension_at model d).starts of_dimension.rows_of_starts.each_row)
            (all-push (WherePresent IsStopRow) (map (row_of (dimension_at model d).nodes) (route lists v)) _ (each (route lists v))
            (found_is IsStopRow (λ row. row.key == v) (dimension_at model d).ends of_dimension.rows_of_ends.each_row))
          where
            each : (xs : List ℕ) → All (WherePresent IsStopRow) (map (row_of (dimension_at model d).nodes) xs)
            each [] k e low = absurd (omega (arith, low))
            each (x ∷ xs) zero e low = found_is IsStopRow (λ row. row.key == x) (dimension_at model d).nodes of_dimension.rows_of_visits.each_row
            each (x ∷ xs) (suc k) e low = each xs k e (omega (arith, low))

        high : All (λ x. x ≤ℤ horizon) (plan_at (assigned model lists) d v).cumuls
        high k e low = subst (λ x. x ≤ℤ horizon) (get_or_default (plan_at (assigned model lists) d v).cumuls k (pos 0) e low)
            (cumul-up_to k (let s = stops in omega (arith, low, s))).at_most

    -- where transits do not go back cumuls do not fall
    rising : ((has_breaks (dimension_at model d) || has_span_costs (dimension_at model d)) ≡ true) → (k : ℕ)
        → k ≤ length (route lists v) + 1 → cumul (plan_at (assigned model lists) d v) 0 ≤ℤ cumul (plan_at (assigned model lists) d v) k
    rising asked zero low = omega (arith, ints)
    rising asked (suc k) low =
        let before = rising asked k (omega (arith, low)) in
        let arcs = arcs_long model well d v dimension (vehicle_of v known) (route lists v) used visits distinct in
        let under : k < length (line model d v (route lists v)).arcs = omega (arith, low, arcs) in
        let slack = meets.slacks_left k under in
        let bounded = meets.slacks_bounded k under in
        let s = bounded.0 in
        let forward = line_forward model well d v dimension (vehicle_of v known) (route lists v) used visits distinct asked k under in
        omega (arith, ints, before, slack, s, forward)

    -- from the start to the end, where that costs something
    pub span-rises : ((has_breaks (dimension_at model d) || has_span_costs (dimension_at model d)) ≡ true)
        → start_at (assigned model lists) d v ≤ℤ end_at (assigned model lists) d v
    span-rises asked = rising asked (suc (length (route lists v))) (omega arith)

    pub start-up_to : IsUpTo 68719476736 (start_at (assigned model lists) d v)
    start-up_to = cumul-up_to 0 (omega arith)

    pub end-up_to : IsUpTo 68719476736 (end_at (assigned model lists) d v)
    end-up_to = cumul-up_to (suc (length (route lists v))) (omega arith)

    -- a coefficient of a span other than 0 asks that transits do not go back
    span_asked : (number_at (dimension_at model d).span_costs v ≡ pos 0) ⊎ ((has_breaks (dimension_at model d) || has_span_costs (dimension_at model d)) ≡ true)
    span_asked = go (is_same_number (number_at (dimension_at model d).span_costs v) (pos 0)) refl
      where
        known_there : v < length (dimension_at model d).span_costs
        known_there = let e = of_dimension.span_cost_of_each_vehicle in let k = vehicle_of v known in omega (arith, e, k)

        go : (b : Bool) → is_same_number (number_at (dimension_at model d).span_costs v) (pos 0) ≡ b
            → (number_at (dimension_at model d).span_costs v ≡ pos 0) ⊎ ((has_breaks (dimension_at model d) || has_span_costs (dimension_at model d)) ≡ true)
        go true e = inl (eq_of_tests (number_at (dimension_at model d).span_costs v) (pos 0) e)
        go false e = inr (or_right (has_breaks (dimension_at model d)) _
            (or_left (list_any (λ coefficient. not (is_same_number coefficient (pos 0))) (dimension_at model d).span_costs) _
            (list_any_at (λ coefficient. not (is_same_number coefficient (pos 0))) (dimension_at model d).span_costs v (pos 0) known_there (ap not e))))

    pub span-up_to : IsUpTo (10000 * 68719476736)
        (number_at (dimension_at model d).span_costs v *ℤ (end_at (assigned model lists) d v -ℤ start_at (assigned model lists) d v))
    span-up_to =
        let a = start-up_to.at_least in let b = end-up_to.at_most in
        product-up_to 10000 68719476736 (number_at (dimension_at model d).span_costs v)
        (end_at (assigned model lists) d v -ℤ start_at (assigned model lists) d v)
        (of_dimension.span_costs_in_range v (pos 0) (let e = of_dimension.span_cost_of_each_vehicle in let k = vehicle_of v known in omega (arith, e, k)))
        (omega (arith, ints, a, b)) (elim span_asked [ inl none ↦ inl none | inr asked ↦ (let r = span-rises asked in inr (omega (arith, ints, r))) ])

  -- ---- sums over used vehicles and dimensions

  over-plans : (f : ℕ → ℕ → ℤ) → over_plans model (assigned model lists) f
      ≡ sum_range (λ v. cond (is_empty (route lists v)) (pos 0) (sum_range (λ d. f d v) 0 (length model.dimensions))) 0 (length lists)
  over-plans f = total_by-failing (λ v. total_by (λ d. f d v) (below (length model.dimensions))) (λ v. is_empty (route lists v)) (below (length lists))

  pub soft_part-up_to : IsUpTo (1200 * (4 * (10000 * 68719476736))) (soft_part model (assigned model lists))
  soft_part-up_to = subst (IsUpTo (1200 * (4 * (10000 * 68719476736)))) (sym (over-plans (soft_costs model (assigned model lists))))
      (up_to-more _ (lists-up_to lists _ 2 (4 * (10000 * 68719476736)) each) (let a = few in let b = fleet in omega (arith, a, b)))
    where
      each : (v : ℕ) → v < length lists → IsUpTo ((length (route lists v) + 2) * (4 * (10000 * 68719476736)))
          (cond (is_empty (route lists v)) (pos 0) (sum_range (λ d. soft_costs model (assigned model lists) d v) 0 (length model.dimensions)))
      each v known = up_to-cond _ (is_empty (route lists v)) _ λ used.
          let m = mul-le-mul_right ((length (route lists v) + 2) * (10000 * 68719476736)) well.number_of_dimensions in
          up_to-more _
          (range-up_to (λ d. soft_costs model (assigned model lists) d v) ((length (route lists v) + 2) * (10000 * 68719476736))
          (length model.dimensions) (λ d low. softs-up_to d v low known used)) (omega (arith, m))

  pub span_part-up_to : IsUpTo (100 * (4 * (10000 * 68719476736))) (span_part model (assigned model lists))
  span_part-up_to = subst (IsUpTo (100 * (4 * (10000 * 68719476736))))
      (sym (over-plans (λ d v. number_at (dimension_at model d).span_costs v *ℤ (end_at (assigned model lists) d v -ℤ start_at (assigned model lists) d v))))
      (up_to-more _ (range-up_to _ (4 * (10000 * 68719476736)) (length lists) each) (let b = fleet in omega (arith, b)))
    where
      each : (v : ℕ) → v < length lists → IsUpTo (4 * (10000 * 68719476736)) (cond (is_empty (route lists v)) (pos 0)
          (sum_range (λ d. number_at (dimension_at model d).span_costs v *ℤ (end_at (assigned model lists) d v -ℤ start_at (assigned model lists) d v))
          0 (length model.dimensions)))
      each v known = up_to-cond _ (is_empty (route lists v)) _ λ used.
          let n = well.number_of_dimensions in
          up_to-more _
          (range-up_to (λ d. number_at (dimension_at model d).span_costs v *ℤ (end_at (assigned model lists) d v -ℤ start_at (assigned model lists) d v))
          (10000 * 68719476736) (length model.dimensions) (λ d low. span-up_to d v low known used)) (omega (arith, n))

  -- ---- global spans

  module _ (d : ℕ) (dimension : d < length model.dimensions) where
    asked_of_all : ((dimension_at model d).global_span_cost ≡ pos 0) ⊎ ((has_breaks (dimension_at model d) || has_span_costs (dimension_at model d)) ≡ true)
    asked_of_all = go (is_same_number (dimension_at model d).global_span_cost (pos 0)) refl
      where
        go : (b : Bool) → is_same_number (dimension_at model d).global_span_cost (pos 0) ≡ b
            → ((dimension_at model d).global_span_cost ≡ pos 0) ⊎ ((has_breaks (dimension_at model d) || has_span_costs (dimension_at model d)) ≡ true)
        go true e = inl (eq_of_tests (dimension_at model d).global_span_cost (pos 0) e)
        go false e = inr (or_right (has_breaks (dimension_at model d)) _
            (or_right (list_any (λ coefficient. not (is_same_number coefficient (pos 0))) (dimension_at model d).span_costs)
            (not (is_same_number (dimension_at model d).global_span_cost (pos 0))) (ap not e)))

    -- the ends of used vehicles, and their starts
    spread-high : (used : List ℕ) → ((v : ℕ) → In used v → (v < length lists) × (is_empty (route lists v) ≡ false))
        → (greatest (map (end_at (assigned model lists) d) used) -ℤ least (map (start_at (assigned model lists) d) used)) ≤ℤ pos 68719476736
    spread-high [] each = omega (arith, ints)
    spread-high (v ∷ vs) each =
        let here = each v (inl refl) in
        let most = fold-max_most 68719476736 (end_at (assigned model lists) d v) (map (end_at (assigned model lists) d) vs)
        (end-up_to d v dimension here.0 here.1).at_most (ends vs (λ w h. each w (inr h))) in
        let low = fold-min_least (start_at (assigned model lists) d v) (map (start_at (assigned model lists) d) vs)
        (start-up_to d v dimension here.0 here.1).at_least (starts vs (λ w h. each w (inr h))) in
        omega (arith, ints, most, low)
      where
        ends : (vs : List ℕ) → ((v : ℕ) → In vs v → (v < length lists) × (is_empty (route lists v) ≡ false))
            → All (λ y. y ≤ℤ pos 68719476736) (map (end_at (assigned model lists) d) vs)
        ends [] each k e low = absurd (omega (arith, low))
        ends (v ∷ vs) each zero e low = let h = each v (inl refl) in (end-up_to d v dimension h.0 h.1).at_most
        ends (v ∷ vs) each (suc k) e low = ends vs (λ w h. each w (inr h)) k e (omega (arith, low))

        starts : (vs : List ℕ) → ((v : ℕ) → In vs v → (v < length lists) × (is_empty (route lists v) ≡ false))
            → All (λ y. pos 0 ≤ℤ y) (map (start_at (assigned model lists) d) vs)
        starts [] each k e low = absurd (omega (arith, low))
        starts (v ∷ vs) each zero e low = let h = each v (inl refl) in (start-up_to d v dimension h.0 h.1).at_least
        starts (v ∷ vs) each (suc k) e low = starts vs (λ w h. each w (inr h)) k e (omega (arith, low))

    spread-low : ((has_breaks (dimension_at model d) || has_span_costs (dimension_at model d)) ≡ true)
        → (used : List ℕ) → ((v : ℕ) → In used v → (v < length lists) × (is_empty (route lists v) ≡ false))
        → pos 0 ≤ℤ (greatest (map (end_at (assigned model lists) d) used) -ℤ least (map (start_at (assigned model lists) d) used))
    spread-low asked [] each = omega (arith, ints)
    spread-low asked (v ∷ vs) each =
        let here = each v (inl refl) in
        let rise = span-rises d v dimension here.0 here.1 asked in
        let high = fold-max_least (end_at (assigned model lists) d v) (map (end_at (assigned model lists) d) vs) in
        let low = fold-min_most (start_at (assigned model lists) d v) (map (start_at (assigned model lists) d) vs) in
        omega (arith, ints, rise, high, low)

    used_are : (v : ℕ) → In (used_vehicles lists) v → (v < length lists) × (is_empty (route lists v) ≡ false)
    used_are v h =
        let r = of_filter (λ v. not (is_empty (route lists v))) (below (length lists)) v h in
        (of_below (length lists) v r.0, fails_not (is_empty (route lists v)) r.1)

    global-up_to : IsUpTo (10000 * 68719476736) ((dimension_at model d).global_span_cost *ℤ global_span (assigned model lists) d)
    global-up_to = product-up_to 10000 68719476736 (dimension_at model d).global_span_cost (global_span (assigned model lists) d)
        (well.each_dimension d no_dimension dimension).global_span_cost_in_range (spread-high (used_vehicles lists) used_are)
        (elim asked_of_all [ inl none ↦ inl none | inr asked ↦ inr (spread-low asked (used_vehicles lists) used_are) ])

  pub global_part-up_to : IsUpTo (4 * (10000 * 68719476736)) (global_part model (assigned model lists))
  global_part-up_to = let n = well.number_of_dimensions in
      up_to-more (global_part model (assigned model lists))
      (range-up_to (λ d. (dimension_at model d).global_span_cost *ℤ global_span (assigned model lists) d)
      (10000 * 68719476736) (length model.dimensions) global-up_to) (omega (arith, n))
