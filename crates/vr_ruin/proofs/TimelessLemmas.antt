-- Where no schedules cost anything, an insertion makes the cost more by arcs and a fixed cost alone.
use Rattle.std.proofs.Common.{◌≡◌, ◌∙◌, ℕ, zero, suc, ◌+◌, ◌*◌, ◌<◌, ◌++◌, Bool, true, false, cond, List, [], ◌∷◌, length, refl, sym, ap, subst, arith}
use Rattle.std.proofs.Common.{length-set}
use Rattle.std.specs.Prelude.{ℤ, pos, neg_ℤ, ◌^◌, ◌+ℤ◌, ◌-ℤ◌, ◌*ℤ◌, ◌≤ℤ◌, All, IfSome, Option, Some, None}
use Rattle.std.specs.List.{list_all}
use Rattle.std.specs.Ordering.{int_eq}
use Rattle.std.proofs.lemmas.Bool.Decides.{Decides-int_eq}
use Rattle.std.proofs.lemmas.Int.{ints}
use Rattle.std.proofs.lemmas.List.{length-append}
use Rattle.vr_model.specs.declared.records.Model.{Model}
use Rattle.vr_model.specs.deciding.Testing.{and_left, and_right}
use Rattle.vr_model.specs.tables.Numbers.{below, is_lex_less, number_at, total_by}
use Rattle.vr_model.specs.tables.Tables.{dimension_at, no_vehicle, vehicle_at}
use Rattle.vr_model.specs.tables.WellFormed.{IsWellFormed}
use Rattle.vr_model.specs.routes.Routes.{arcs_from, cost_of_arc, is_empty, route, route_cost, used_vehicles}
use Rattle.vr_model.specs.routes.Costs.{Assignment, arcs_part, assigned, cost, end_at, fixed_part, global_part, global_span, over_plans, penalty_part, plan_at}
use Rattle.vr_model.specs.routes.Costs.{soft_costs, soft_part, span_part, start_at}
use Rattle.vr_model.specs.routes.Rules.{is_route_open}
use Rattle.vr_model.specs.first.Choosing.{better}
use Rattle.vr_model.specs.first.CheapestInsertion.{inserted, inserted_in}
use Rattle.vr_model.proofs.tables.Bounds.{arc_cost_in_range}
use Rattle.vr_model.proofs.tables.Tests.{clash}
use Rattle.vr_model.proofs.tables.Totals.{sum_nothing, total_by-failing, total_by-nothing, total_by-same}
use Rattle.vr_model.proofs.routes.Bounded.{IsUpTo, up_to-zero}
use Rattle.vr_model.proofs.routes.Lists.{route_set_same}
use Rattle.vr_lists.proofs.VisitLists.{visits-below, visits-few}
use Rattle.vr_parts.proofs.SumLemmas.{over-set}
use Rattle.vr_plan.specs.Paying.{is_free, PaysNothing}
use Rattle.vr_plan.proofs.ExtentLemmas.{times-none}
use Rattle.vr_plan.proofs.PayingLemmas.{free_pays, pays_nothing_where}
use Rattle.vr_rules.specs.Placing.{item_nodes, AreBuilt}
use Rattle.vr_rules.proofs.OpenLemmas.{one_fails}
use Rattle.vr_rules.proofs.PlacingLemmas.{built-count, built-distinct, built-visits}
use Rattle.vr_ruin.specs.declared.placing.Offer.{Offer}
use Rattle.vr_ruin.specs.declared.placing.Placing.{Placing}
use Rattle.vr_ruin.specs.declared.placing.Placing.TheVariants.{One, Two}
use Rattle.vr_ruin.specs.Makings.{MayBeMade}
use Rattle.vr_ruin.specs.Offers.{paid_cost, price_of}
use Rattle.vr_ruin.specs.Placings.{best_of, insertion_of, item_in, key_of, offer_for, placed, places_in, weigh}
use Rattle.vr_ruin.specs.Timeless.{costs_no_time, is_timeless, AddsToArcs}
use Rattle.vr_ruin.proofs.AskLemmas.{placed_is}

pub each_below : (p : ℕ → Bool) (n d : ℕ) → list_all p (below n) ≡ true → d < n → p d ≡ true
each_below p n d all low = by (p d) refl
  where
    by : (b : Bool) → p d ≡ b → p d ≡ true
    by true e = e
    by false e = absurd (clash (list_all p (below n)) all (one_fails p n d low e))

nothing : {A : Type 0} (f : A → ℤ) → ((x : A) → f x ≡ pos 0) → (xs : List A) → total_by f xs ≡ pos 0
nothing f h xs = total_by-same f (λ x. pos 0) h xs ∙ total_by-nothing xs

-- ---- schedules cost nothing

module _ (model : Model) (timeless : is_timeless model ≡ true) where
  free : (d : ℕ) → d < length model.dimensions → costs_no_time (dimension_at model d) ≡ true
  free d low = each_below (λ d. costs_no_time (dimension_at model d)) (length model.dimensions) d timeless low

  no_coefficient : (d : ℕ) → d < length model.dimensions → (dimension_at model d).global_span_cost ≡ pos 0
  no_coefficient d low = (Decides-int_eq (dimension_at model d).global_span_cost (pos 0)).0
      (and_left (int_eq (dimension_at model d).global_span_cost (pos 0)) (is_free (dimension_at model d)) (free d low))

  pays : (d : ℕ) → d < length model.dimensions → (v : ℕ) (list : List ℕ) → PaysNothing (dimension_at model d) v list
  pays d low v list = pays_nothing_where (dimension_at model d) v list
      (free_pays (dimension_at model d)
      (and_right (int_eq (dimension_at model d).global_span_cost (pos 0)) (is_free (dimension_at model d)) (free d low)) v list)

  global-nothing : (lists : List (List ℕ)) → global_part model (assigned model lists) ≡ pos 0
  global-nothing lists = sum_nothing (λ d. (dimension_at model d).global_span_cost *ℤ global_span (assigned model lists) d) 0 (length model.dimensions)
      (λ d low high. times-none (dimension_at model d).global_span_cost (global_span (assigned model lists) d) (no_coefficient d (omega (arith, high))))

  over-nothing : (assignment : Assignment) (f : ℕ → ℕ → ℤ) → ((d v : ℕ) → d < length model.dimensions → f d v ≡ pos 0) → over_plans model assignment f ≡ pos 0
  over-nothing assignment f h = nothing (λ v. total_by (λ d. f d v) (below (length model.dimensions)))
      (λ v. sum_nothing (λ d. f d v) 0 (length model.dimensions) (λ d low high. h d v (omega (arith, high)))) (used_vehicles assignment.lists)

  soft-nothing : (lists : List (List ℕ)) → soft_part model (assigned model lists) ≡ pos 0
  soft-nothing lists = over-nothing (assigned model lists) (soft_costs model (assigned model lists))
      (λ d v low. (pays d low v (route lists v)).soft (plan_at (assigned model lists) d v).cumuls)

  span-nothing : (lists : List (List ℕ)) → span_part model (assigned model lists) ≡ pos 0
  span-nothing lists = over-nothing (assigned model lists)
      (λ d v. number_at (dimension_at model d).span_costs v *ℤ (end_at (assigned model lists) d v -ℤ start_at (assigned model lists) d v))
      (λ d v low. times-none (number_at (dimension_at model d).span_costs v)
      (end_at (assigned model lists) d v -ℤ start_at (assigned model lists) d v) (pays d low v (route lists v)).span)

  paid-is : (lists : List (List ℕ)) → paid_cost model lists ≡ arcs_part model lists +ℤ fixed_part model lists
  unfolding cost
  paid-is lists =
      let plan = assigned model lists in
      let sum : cost model lists ≡ arcs_part model lists
      +ℤ (fixed_part model lists +ℤ (global_part model plan +ℤ (penalty_part model lists +ℤ (soft_part model plan +ℤ (span_part model plan +ℤ pos 0))))) =
      refl in
      let a = global-nothing lists in
      let b = soft-nothing lists in
      let c = span-nothing lists in
      omega (arith, ints, sum, a, b, c)

-- ---- one list more

-- what the use of vehicle v costs with a list
abbrev fixed_with : Model → ℕ → List ℕ → ℤ
fixed_with model v list = cond (is_empty list) (pos 0) (vehicle_at model v).fixed

fixed-over : (model : Model) (lists : List (List ℕ)) → fixed_part model lists ≡ total_by (λ v. fixed_with model v (route lists v)) (below (length lists))
fixed-over model lists = total_by-failing (λ v. (vehicle_at model v).fixed) (λ v. is_empty (route lists v)) (below (length lists))

some-in : (xs ys : List ℕ) (y : ℕ) → is_empty (xs ++ y ∷ ys) ≡ false
some-in [] ys y = refl
some-in (x ∷ xs) ys y = refl

pub some-placed : (list : List ℕ) (placing : Placing) → is_empty (placed list placing) ≡ false
some-placed list (One n t) = some-in _ _ n
some-placed list (Two p d s t) = some-in _ _ p

module _ (model : Model) (timeless : is_timeless model ≡ true) (lists : List (List ℕ))
    (offer : Offer) (low : offer.vehicle < length lists) (adds : AddsToArcs model lists offer) where
  abbrev here : List ℕ
  here = route lists offer.vehicle

  abbrev after : List ℕ
  after = inserted_in here (item_nodes (item_in offer.placing)) (places_in offer.placing)

  price-sum : price_of model lists (insertion_of offer) ≡ offer.increase +ℤ (fixed_with model offer.vehicle after -ℤ fixed_with model offer.vehicle here)
  price-sum =
      let v = offer.vehicle in
      let same = ap (route_cost model v) (placed_is here offer.placing) in
      let a = paid-is model timeless (inserted lists (insertion_of offer)) in
      let b = paid-is model timeless lists in
      let c = over-set (route_cost model) lists v after low in
      let d = over-set (fixed_with model) lists v after low in
      let e = fixed-over model (inserted lists (insertion_of offer)) in
      let f = fixed-over model lists in
      omega (arith, ints, same, adds, a, b, c, d, e, f)

  some-after : is_empty after ≡ false
  some-after = ap is_empty (sym (placed_is here offer.placing)) ∙ some-placed here offer.placing

  -- the price where the vehicle is used, and where it is not
  pub price-used : is_empty here ≡ false → offer.increase ≡ price_of model lists (insertion_of offer)
  price-used used =
      let sum = price-sum in
      let a = ap (λ b. cond b (pos 0) (vehicle_at model offer.vehicle).fixed) some-after in
      let b = ap (λ b. cond b (pos 0) (vehicle_at model offer.vehicle).fixed) used in
      omega (arith, ints, sum, a, b)

  pub price-unused : is_empty here ≡ true → offer.increase +ℤ (vehicle_at model offer.vehicle).fixed ≡ price_of model lists (insertion_of offer)
  price-unused unused =
      let sum = price-sum in
      let a = ap (λ b. cond b (pos 0) (vehicle_at model offer.vehicle).fixed) some-after in
      let b = ap (λ b. cond b (pos 0) (vehicle_at model offer.vehicle).fixed) unused in
      omega (arith, ints, sum, a, b)

-- ---- the best of places has the increase of its place

module _ (model : Model) (v : ℕ) (list : List ℕ) where
  abbrev IsOfPlace : Offer → Type 0
  IsOfPlace offer = offer ≡ offer_for model v list offer.placing

  either : (b : Bool) (x y : Offer) → IsOfPlace x → IsOfPlace y → IsOfPlace (cond b x y)
  either true x y p q = p
  either false x y p q = q

  better-of : (best : Option Offer) (next : Offer) → IfSome best IsOfPlace → IsOfPlace next → IfSome (better key_of best next) IsOfPlace
  better-of None next is at = at
  better-of (Some best) next is at = either (is_lex_less (key_of next) (key_of best)) next best at is

  weighed : (b : Bool) (best : Option Offer) (next : Offer) → IfSome best IsOfPlace → IsOfPlace next → IfSome (cond b (better key_of best next) best) IsOfPlace
  weighed true best next is at = better-of best next is at
  weighed false best next is at = is

  best-of-place : (placings : List Placing) (best : Option Offer) → IfSome best IsOfPlace → IfSome (best_of model v list best placings) IsOfPlace
  best-of-place [] best is = is
  best-of-place (p ∷ ps) best is = best-of-place ps (weigh model list best (offer_for model v list p))
      (weighed (is_route_open model v (placed list p)) best (offer_for model v list p) is refl)

-- ---- the arc costs of a list are bounded

all-push : {A : Type 0} (P : A → Type 0) (xs : List A) (x : A) → All P xs → P x → All P (xs ++ x ∷ [])
all-push P [] x each last zero d low = last
all-push P [] x each last (suc k) d low = absurd (omega (arith, low))
all-push P (y ∷ ys) x each last zero d low = each 0 d (omega arith)
all-push P (y ∷ ys) x each last (suc k) d low = all-push P ys x (λ j e l. each (suc j) e (omega (arith, l))) last k d (omega (arith, low))

module _ (model : Model) (well : IsWellFormed model) (v : ℕ) (known : v < length model.vehicles) where
  path-up_to : (node : ℕ) (nodes : List ℕ) → node < model.nodes → All (λ x. x < model.nodes) nodes
      → IsUpTo (length nodes * 1099511627776) (total_by (cost_of_arc model) (arcs_from v node nodes))
  path-up_to node [] low each = up_to-zero _
  path-up_to node (next ∷ rest) low each =
      let next_low = each 0 next (omega arith) in
      let here = arc_cost_in_range model well v node next known low next_low in
      let later = path-up_to next rest next_low (λ k d l. each (suc k) d (omega (arith, l))) in
      record { at_least = omega (arith, ints, here.at_least, later.at_least); at_most = omega (arith, ints, here.at_most, later.at_most) }

  route-up_to : (list : List ℕ) → All (λ x. x < model.nodes) list → IsUpTo ((length list + 1) * 1099511627776) (route_cost model v list)
  route-up_to [] each = up_to-zero _
  route-up_to (x ∷ xs) each =
      let vehicle = well.each_vehicle v no_vehicle known in
      subst (λ n. IsUpTo (n * 1099511627776) (route_cost model v (x ∷ xs))) (length-append (x ∷ xs) ((vehicle_at model v).end ∷ []))
      (path-up_to (vehicle_at model v).start ((x ∷ xs) ++ (vehicle_at model v).end ∷ []) vehicle.start_in_range
      (all-push (λ node. node < model.nodes) (x ∷ xs) (vehicle_at model v).end each vehicle.end_in_range))

module _ (model : Model) (well : IsWellFormed model) (lists : List (List ℕ)) (v : ℕ) (built : AreBuilt model lists) (low : v < length lists) where
  built-up_to : IsUpTo (1001 * 1099511627776) (route_cost model v (route lists v))
  built-up_to =
      let list = route lists v in
      let visits = built-visits model lists v built in
      let few = visits-few model list visits (built-distinct model lists v built) in
      let nodes = well.number_of_nodes.1 in
      let many = built-count model lists built in
      let up_to = route-up_to model well v (omega (arith, low, many)) list (visits-below model list visits) in
      record { at_least = up_to.at_least; at_most = omega (arith, ints, up_to.at_most, few, nodes) }

-- ---- an offer that may be made

module _ (model : Model) (well : IsWellFormed model) (lists : List (List ℕ)) (built : AreBuilt model lists)
    (offer : Offer) (may : MayBeMade model lists offer) (adds : AddsToArcs model lists offer) where
  pub increase-in_range : (neg_ℤ (pos (2 ^ 51)) ≤ℤ offer.increase) × (offer.increase ≤ℤ pos (2 ^ 51))
  increase-in_range =
      let v = offer.vehicle in
      let after = built-up_to model well (inserted lists (insertion_of offer)) v may.built (subst (λ n. v < n) (sym (length-set lists v _)) may.vehicle) in
      let before = built-up_to model well lists v built may.vehicle in
      let there = ap (route_cost model v)
      (route_set_same lists v (inserted_in (route lists v) (item_nodes (item_in offer.placing)) (places_in offer.placing)) may.vehicle) in
      let same = ap (route_cost model v) (placed_is (route lists v) offer.placing) in (
        omega (arith, ints, adds, same, there, after.at_least, after.at_most, before.at_least, before.at_most),
        omega (arith, ints, adds, same, there, after.at_least, after.at_most, before.at_least, before.at_most),
      )

-- the best of the places of a list adds to the arcs of its vehicle what it says
pub best-adds : (model : Model) (lists : List (List ℕ)) (v : ℕ) (placings : List Placing) (best : Option Offer)
    → best ≡ best_of model v (route lists v) None placings → IfSome best (AddsToArcs model lists)
best-adds model lists v placings best is =
    by best (subst (λ o. IfSome o (IsOfPlace model v (route lists v))) (sym is) (best-of-place model v (route lists v) placings None tt))
  where
    by : (best : Option Offer) → IfSome best (IsOfPlace model v (route lists v)) → IfSome best (AddsToArcs model lists)
    by None is = is
    by (Some offer) is = subst (AddsToArcs model lists) (sym is) refl

-- and it is of this vehicle
pub best-vehicle : (model : Model) (lists : List (List ℕ)) (v : ℕ) (placings : List Placing) (best : Option Offer)
    → best ≡ best_of model v (route lists v) None placings → IfSome best (λ offer. offer.vehicle ≡ v)
best-vehicle model lists v placings best is =
    by best (subst (λ o. IfSome o (IsOfPlace model v (route lists v))) (sym is) (best-of-place model v (route lists v) placings None tt))
  where
    by : (best : Option Offer) → IfSome best (IsOfPlace model v (route lists v)) → IfSome best (λ offer. offer.vehicle ≡ v)
    by None is = is
    by (Some offer) is = ap (λ o. o.vehicle) is
