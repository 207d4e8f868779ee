-- Augmented costs are bounded.
use Rattle.std.proofs.Common.{◌≡◌, ℕ, zero, suc, ◌+◌, ◌*◌, ◌^◌, ◌-◌, ◌<◌, ◌≤◌, List, [], ◌∷◌, ◌++◌, length, take, drop, inr, refl, sym, ap, subst, arith}
use Rattle.std.specs.Prelude.{ℤ, pos, ◌+ℤ◌, ◌-ℤ◌, ◌*ℤ◌, ◌≤ℤ◌, IsTrue, All, slice_range}
use Rattle.std.proofs.lemmas.Int.{ints}
use Rattle.std.proofs.lemmas.List.{length-append}
use Rattle.vr_model.specs.tables.Numbers.{total_by}
use Rattle.vr_model.specs.tables.Tables.{no_vehicle, vehicle_at}
use Rattle.vr_model.specs.tables.WellFormed.{IsWellFormed}
use Rattle.vr_model.specs.routes.Costs.{cost}
use Rattle.vr_model.specs.routes.Routes.{arcs_from, route}
use Rattle.vr_model.specs.routes.Rules.{is_valid}
use Rattle.vr_model.specs.search.GuidedSearches.{Penalties, augmented, penalised}
use Rattle.vr_model.specs.declared.records.Model.{Model}
use Rattle.vr_model.proofs.routes.Bounded.{IsUpTo, lists-up_to, product-up_to, up_to-more, up_to-zero}
use Rattle.vr_model.proofs.routes.CostFits.{costs_are_bounded}
use Rattle.vr_model.proofs.routes.Lists.{are-lists, are_lists-count, route-below, visits-few}
use Rattle.vr_model.proofs.tables.Bounds.{arc_cost_in_range}
use Rattle.vr_routes.specs.declared.pieces.Piece.{Piece}
use Rattle.vr_routes.specs.Pieces.{IsSplice, joined}
use Rattle.vr_guided.specs.Bounding.{AugmentedCostsAreBounded, IsBounded}
use Rattle.vr_guided.specs.Counts.{AtMost}
use Rattle.vr_guided.specs.Walks.{route_weight, stretch_weight, unused_weight, arc_weight}
use Rattle.vr_balance.specs.Sums.{last_of}
use Rattle.vr_guided.proofs.PartLemmas.{bare, middle_value, sums, used}
use Rattle.vr_routes.proofs.JoinedPieces.{all_left, all_right}
use Rattle.vr_guided.proofs.WalkLemmas.{all_push}

-- the most that a penalised arc adds
abbrev pub most : ℕ
most = 1000000000 * 1099511627776

module _ (model : Model) (well : IsWellFormed model) (p : Penalties) (few : AtMost 1000000000 p) where
  weight-up_to : (v origin target : ℕ) → v < length model.vehicles → origin < model.nodes → target < model.nodes
      → IsUpTo most (arc_weight model p (record { vehicle = v; origin = origin; target = target }))
  weight-up_to v origin target known low next =
      let costs = arc_cost_in_range model well v origin target known low next in
      let often = few.each origin target in
      product-up_to 1000000000 1099511627776 (pos (p origin target)) _
      (record { at_least = omega (arith, ints); at_most = omega (arith, ints, often) }) costs.at_most (inr costs.at_least)

  pub path-up_to : (v node : ℕ) (nodes : List ℕ) → v < length model.vehicles → node < model.nodes → All (λ x. x < model.nodes) nodes
      → IsUpTo (length nodes * most) (total_by (arc_weight model p) (arcs_from v node nodes))
  path-up_to v node [] known low each = up_to-zero _
  path-up_to v node (next ∷ rest) known low each =
      let next_low = each 0 next (omega arith) in
      let here = weight-up_to v node next known low next_low in
      let later = path-up_to v next rest known next_low (λ k d l. each (suc k) d (omega (arith, l))) in
      record { at_least = omega (arith, ints, here.at_least, later.at_least); at_most = omega (arith, ints, here.at_most, later.at_most) }

  pub route-up_to : (v : ℕ) (list : List ℕ) → v < length model.vehicles
      → All (λ x. x < model.nodes) list → IsUpTo ((length list + 1) * most) (route_weight model p v list)
  route-up_to v [] known each = up_to-zero _
  route-up_to v (x ∷ xs) known each =
      let vehicle = well.each_vehicle v no_vehicle known in
      subst (λ n. IsUpTo (n * most) (route_weight model p v (x ∷ xs))) (length-append (x ∷ xs) ((vehicle_at model v).end ∷ []))
      (path-up_to v (vehicle_at model v).start ((x ∷ xs) ++ (vehicle_at model v).end ∷ []) known vehicle.start_in_range
      (all_push (λ node. node < model.nodes) (x ∷ xs) (vehicle_at model v).end each vehicle.end_in_range))

  pub penalised-up_to : (lists : List (List ℕ)) → IsTrue (is_valid model lists) → IsUpTo (1100 * most) (penalised model p lists)
  penalised-up_to lists valid =
      let are = are-lists model lists valid in
      let many = are_lists-count model lists are in
      let visits = visits-few model lists are in
      let nodes = well.number_of_nodes.1 in
      let fleet = well.number_of_vehicles.at_most in
      subst (IsUpTo (1100 * most)) (sym (sums model p lists))
      (up_to-more _
      (lists-up_to lists (λ v. route_weight model p v (route lists v)) 1 most
      (λ v low. route-up_to v (route lists v) (omega (arith, low, many)) (route-below model lists v are)))
      (omega (arith, visits, nodes, many, fleet)))

-- two heads of one list are the same
same_head : (x y : ℕ) (xs ys : List ℕ) → x ∷ xs ≡ y ∷ ys → x ≡ y
same_head x y xs ys e = ap (first_or 0) e
  where
    first_or : ℕ → List ℕ → ℕ
    first_or d [] = d
    first_or d (z ∷ zs) = z

less_itself : (x y z : ℤ) → x ≡ z +ℤ pos 0 → y ≡ z → pos 0 ≤ℤ (x -ℤ y)
less_itself x y z e h = omega (arith, ints, e, h)

less_nothing : (x y : ℤ) → pos 0 ≤ℤ x → y ≡ pos 0 → pos 0 ≤ℤ (x -ℤ y)
less_nothing x y low e = omega (arith, ints, low, e)

module _ (model : Model) (well : IsWellFormed model) (p : Penalties) (few : AtMost 1000000000 p) (v : ℕ) (known : v < length model.vehicles) where
  abbrev start : ℕ
  start = (vehicle_at model v).start

  abbrev end : ℕ
  end = (vehicle_at model v).end

  abbrev Below : List ℕ → Type 0
  Below nodes = All (λ node. node < model.nodes) nodes

  -- where a path through nodes ends
  pub last_below : (x : ℕ) (nodes : List ℕ) → x < model.nodes → Below nodes → last_of x nodes < model.nodes
  last_below x [] low each = low
  last_below x (y ∷ ys) low each = last_below y ys (each 0 y (omega arith)) (λ k d l. each (suc k) d (omega (arith, l)))

  next_below : (rest others : List ℕ) (next : ℕ) → Below rest → rest ++ end ∷ [] ≡ next ∷ others → next < model.nodes
  next_below [] others next each e = subst (λ x. x < model.nodes) (same_head end next [] others e) (well.each_vehicle v no_vehicle known).end_in_range
  next_below (x ∷ xs) others next each e = subst (λ y. y < model.nodes) (same_head x next (xs ++ end ∷ []) others e) (each 0 x (omega arith))

  -- the arcs of a stretch add nothing less than 0
  stretch_low : (front middle rest others : List ℕ) (next : ℕ) → rest ++ end ∷ [] ≡ next ∷ others → Below (front ++ (middle ++ rest))
      → pos 0 ≤ℤ stretch_weight model p v (last_of start front) middle next
  stretch_low front middle rest others next e each =
      let vehicle = well.each_vehicle v no_vehicle known in
      let behind = all_right (λ node. node < model.nodes) front (middle ++ rest) each in
      let from = last_below start front vehicle.start_in_range (all_left (λ node. node < model.nodes) front (middle ++ rest) each) in
      let to = next_below rest others next (all_right (λ node. node < model.nodes) middle rest behind) e in
      (path-up_to model well p few v (last_of start front) (middle ++ next ∷ []) known from
      (all_push (λ node. node < model.nodes) middle next (all_left (λ node. node < model.nodes) middle rest behind) to)).at_least

  -- nor does it without the arc that a vehicle without visits does not take
  pub whole_low : (front middle rest others : List ℕ) (next : ℕ) → rest ++ end ∷ [] ≡ next ∷ others → Below (front ++ (middle ++ rest))
      → pos 0 ≤ℤ (stretch_weight model p v (last_of start front) middle next -ℤ unused_weight model p v (length (front ++ (middle ++ rest))))
  whole_low [] [] [] others next e each =
      less_itself _ _ (arc_weight model p (record { vehicle = v; origin = start; target = end }))
      (ap (λ x. arc_weight model p (record { vehicle = v; origin = start; target = x }) +ℤ pos 0) (sym (same_head end next [] others e))) refl
  whole_low (x ∷ xs) middle rest others next e each =
      less_nothing _ _ (stretch_low (x ∷ xs) middle rest others next e each) (used model p v (length ((x ∷ xs) ++ (middle ++ rest))) (omega arith))
  whole_low [] (x ∷ xs) rest others next e each =
      less_nothing _ _ (stretch_low [] (x ∷ xs) rest others next e each) (used model p v (length ((x ∷ xs) ++ rest)) (omega arith))
  whole_low [] [] (x ∷ xs) others next e each =
      less_nothing _ _ (stretch_low [] [] (x ∷ xs) others next e each) (used model p v (length (x ∷ xs)) (omega arith))

  pub unused_low : (len : ℕ) → pos 0 ≤ℤ unused_weight model p v len
  unused_low zero =
      let vehicle = well.each_vehicle v no_vehicle known in
      (weight-up_to model well p few v start end known vehicle.start_in_range vehicle.end_in_range).at_least
  unused_low (suc n) = subst (λ z. pos 0 ≤ℤ z) (sym (used model p v (suc n) (omega arith))) (omega (arith, ints))

  -- the arcs of a list add no more than a path from the start through it to the end
  pub whole_most : (list : List ℕ) → route_weight model p v list ≤ℤ stretch_weight model p v start list end
  whole_most list = let is = bare model p v list in let none = unused_low (length list) in omega (arith, ints, is, none)

  -- what stands in the place of a stretch takes no more than what its arcs add
  pub middle_saved : (list middle : List ℕ) (front behind next : ℕ) (others : List ℕ) → front ≤ behind
      → drop behind list ++ end ∷ [] ≡ next ∷ others → Below (take front list ++ (middle ++ drop behind list))
      → (route_weight model p v list -ℤ route_weight model p v (take front list ++ (middle ++ drop behind list)))
      ≤ℤ stretch_weight model p v (last_of start (take front list)) (slice_range list front behind) next
  middle_saved list middle front behind next others order e each =
      let value = middle_value model p v list middle front behind next others order e in
      let low = whole_low (take front list) middle (drop behind list) others next e each in
      let none = unused_low (length list) in
      omega (arith, ints, value, low, none)

  -- so do other pieces
  pub part_saved : (lists : List (List ℕ)) (pieces middle : List Piece) (front behind next : ℕ) (others : List ℕ)
      → IsSplice lists v pieces front behind middle → drop behind (route lists v) ++ end ∷ [] ≡ next ∷ others
      → Below (joined lists pieces)
      → (route_weight model p v (route lists v) -ℤ route_weight model p v (joined lists pieces))
      ≤ℤ stretch_weight model p v (last_of start (take front (route lists v))) (slice_range (route lists v) front behind) next
  part_saved lists pieces middle front behind next others ends e each =
      subst (λ xs. (route_weight model p v (route lists v) -ℤ route_weight model p v xs)
      ≤ℤ stretch_weight model p v (last_of start (take front (route lists v))) (slice_range (route lists v) front behind) next)
      (sym ends.joins) (middle_saved (route lists v) (joined lists middle) front behind next others ends.order e (subst Below ends.joins each))

-- a sum of the two parts
sum-bounded : (x y : ℤ) → IsUpTo (1000 * (2 ^ 63 - 1)) x → IsUpTo (1000 * (1100 * most)) y → IsBounded (x +ℤ y)
sum-bounded x y a b = record { least = omega (arith, ints, a.at_least, b.at_least); below = omega (arith, ints, a.at_most, b.at_most) }

pub augmented_costs_are_bounded : AugmentedCostsAreBounded
unfolding augmented
augmented_costs_are_bounded model well lambda is p few lists valid =
    let costs = costs_are_bounded model well lists valid in
    let more = penalised-up_to model well p few lists valid in
    let q : IsUpTo 1000 lambda.q = record { at_least = (let l = is.q_in_range.at_least in omega (arith, ints, l)); at_most = is.q_in_range.at_most } in
    let p_low : IsUpTo 1000 lambda.p = record { at_least = (let l = is.p_in_range.at_least in omega (arith, ints, l)); at_most = is.p_in_range.at_most } in
    sum-bounded (lambda.q *ℤ cost model lists) (lambda.p *ℤ penalised model p lists)
    (product-up_to 1000 (2 ^ 63 - 1) lambda.q (cost model lists) q costs.greatest (inr costs.least))
    (product-up_to 1000 (1100 * most) lambda.p (penalised model p lists) p_low more.at_most (inr more.at_least))
