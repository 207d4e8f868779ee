-- The printed lists, where the rules on them find nothing.
use Rattle.std.proofs.Common.{◌≡◌, ℕ, suc, ◌+◌, ◌-◌, ◌<◌, ◌≤◌, Bool, true, false, cond, ◌&&◌, ◌==◌, List, [], ◌∷◌, ◌++◌, length, get_or, take, drop, refl, ap}
use Rattle.std.proofs.Common.{sym, subst, ◌∙◌, arith}
use Rattle.std.specs.Prelude.{IsTrue, None, nat_le, pos, slice_index_or}
use Rattle.std.specs.List.{list_all}
use Rattle.std.proofs.Math.ListN.{get_or-map}
use Rattle.std.proofs.lemmas.Bool.{ne_eqb}
use Rattle.std.proofs.lemmas.Bool.Decides.{nat_tests}
use Rattle.std.proofs.lemmas.List.{get_or-take, get_or-drop, length-map}
use Rattle.vr_model.specs.tables.Tables.{vehicle_at, is_visit}
use Rattle.vr_model.specs.tables.Numbers.{is_same_number}
use Rattle.vr_model.specs.routes.Routes.{is_empty, route, stops}
use Rattle.vr_model.specs.deciding.Testing.{and_left, and_right, eq_of_test, test_of_eq}
use Rattle.vr_model.specs.declared.records.Model.{Model}
use Rattle.vr_check.specs.Findings.{spot}
use Rattle.vr_printed.specs.Printed.{no_route, visits_between, visits_of, lists_of, nodes_at}
use Rattle.vr_check.specs.Lists.{node_at, is_right_node, ends_broken_at, ends_broken_in, ends_broken}
use Rattle.vr_printed.specs.declared.printed.PrintedRoute.{PrintedRoute}
use Rattle.vr_printed.specs.Shape.{are_routes_shaped}
use Rattle.vr_check.proofs.Nothing.{at_none, is_right, second_case, third_case, all_at}
use Rattle.vr_printed.proofs.Shaped.{route_shaped, visits_long}

-- the list of vehicle v is what its route has between its ends
pub route_is : (routes : List PrintedRoute) (v : ℕ) → route (lists_of routes) v ≡ visits_of (slice_index_or routes v no_route)
route_is routes v = get_or-map visits_of routes v no_route

-- a visit at a place of a list stands one place behind in the nodes
pub between : (nodes : List ℕ) (j : ℕ) → j < length nodes - 2 → get_or (visits_between nodes) j 0 ≡ get_or nodes (1 + j) 0
between nodes j low = get_or-take (length nodes - 2) (drop 1 nodes) j 0 low ∙ get_or-drop 1 nodes j 0

-- each entry of each list is a visit
abbrev pub HasVisits : Model → List (List ℕ) → Type 0
HasVisits model lists = (v : ℕ) → v < length lists → IsTrue (list_all (is_visit model) (route lists v))

-- where the ends are right, the entries between them are visits
pub ends_visits : (model : Model) (routes : List PrintedRoute) → ends_broken model routes ≡ None → HasVisits model (lists_of routes)
ends_visits model routes h v low =
    subst (λ list. IsTrue (list_all (is_visit model) list)) (sym (route_is routes v)) (all_at (is_visit model) 0 (visits_between nodes) there)
  where
    nodes : List ℕ
    nodes = nodes_at routes v

    there : (k : ℕ) → k < length (visits_between (nodes_at routes v)) → is_visit model (get_or (visits_between (nodes_at routes v)) k 0) ≡ true
    there k less =
        let short : k < length (nodes_at routes v) - 2 = omega (arith, less, visits_long (nodes_at routes v)) in
        let found = at_none (ends_broken_in model routes) (length routes) h v (omega (arith, low, length-map routes visits_of)) in
        let here = at_none (ends_broken_at model v (nodes_at routes v)) (length (nodes_at routes v)) found (1 + k) (omega (arith, short)) in
        let good = is_right (is_right_node model v (nodes_at routes v) (1 + k)) (spot v (1 + k)) here in
        let visit = third_case (1 + k == 0) (1 + k + 1 == length (nodes_at routes v)) (node_at (nodes_at routes v) (1 + k) == (vehicle_at model v).start)
        (node_at (nodes_at routes v) (1 + k) == (vehicle_at model v).end) (is_visit model (node_at (nodes_at routes v) (1 + k))) good
        (ne_eqb (1 + k) 0 (λ e. absurd (omega (arith, e)))) (ne_eqb (1 + k + 1) (length (nodes_at routes v)) (λ e. absurd (omega (arith, e, short)))) in
        subst (λ node. is_visit model node ≡ true) (sym (between (nodes_at routes v) k short)) visit

-- ---- the ends of a route

-- the first entries of a list and its last one are the list
all_but_last : (x : ℕ) (rest : List ℕ) → take (length rest) (x ∷ rest) ++ get_or (x ∷ rest) (length rest) 0 ∷ [] ≡ x ∷ rest
all_but_last x [] = refl
all_but_last x (y ∷ rest) = ap (λ xs. x ∷ xs) (all_but_last y rest)

-- nodes are the first one, those between the ends, and the last one
with_ends : (nodes : List ℕ) → 2 ≤ length nodes → nodes ≡ get_or nodes 0 0 ∷ (visits_between nodes ++ get_or nodes (length nodes - 1) 0 ∷ [])
with_ends [] long = absurd (omega (arith, long))
with_ends (x ∷ []) long = absurd (omega (arith, long))
with_ends (x ∷ y ∷ rest) long =
    let two : length (x ∷ y ∷ rest) - 2 ≡ length rest = omega arith in
    let one : length (x ∷ y ∷ rest) - 1 ≡ suc (length rest) = omega arith in
    let last : get_or (x ∷ y ∷ rest) (length (x ∷ y ∷ rest) - 1) 0 ≡ get_or (y ∷ rest) (length rest) 0 = ap (λ k. get_or (x ∷ y ∷ rest) k 0) one in
    ap (λ xs. x ∷ xs) (sym (ap (λ n. take n (y ∷ rest) ++ get_or (x ∷ y ∷ rest) (length (x ∷ y ∷ rest) - 1) 0 ∷ []) two
    ∙ ap (λ node. take (length rest) (y ∷ rest) ++ node ∷ []) last ∙ all_but_last y rest))

some_nodes : (nodes : List ℕ) → is_empty nodes ≡ false → 0 < length nodes
some_nodes [] some = absurd cc
some_nodes (x ∷ xs) some = omega arith

-- a route with nodes has three or more
three : (n m : ℕ) (b : Bool) → IsTrue (cond (n == 0) (m == 0) (nat_le 3 n && b)) → 0 < n → 3 ≤ n
three n m b h some = go (n == 0) refl h
  where
    go : (e : Bool) → (n == 0) ≡ e → IsTrue (cond e (m == 0) (nat_le 3 n && b)) → 3 ≤ n
    go true e h = absurd (let z = eq_of_test n 0 e in omega (arith, z, some))
    go false e h = let low = and_left (nat_le 3 n) b h in grind (arith, nat_tests)

-- where the ends are right, a route with nodes goes from the start of its vehicle through the list to the end
pub ends_stops : (model : Model) (routes : List PrintedRoute) → IsTrue (are_routes_shaped model routes) → ends_broken model routes ≡ None
    → (v : ℕ) → v < length routes → is_empty (nodes_at routes v) ≡ false → nodes_at routes v ≡ stops model v (route (lists_of routes) v)
ends_stops model routes shaped h v low some =
    let r = slice_index_or routes v no_route in
    let nodes : List ℕ = r.nodes in
    let shape = and_right (is_same_number r.vehicle (pos v)) _ (route_shaped model routes shaped v low) in
    let long = three (length nodes) (length r.plans) _ shape (some_nodes nodes some) in
    let found = at_none (ends_broken_in model routes) (length routes) h v low in
    let right : (k : ℕ) → k < length nodes → is_right_node model v nodes k ≡ true =
    λ k less. is_right (is_right_node model v nodes k) (spot v k) (at_none (ends_broken_at model v nodes) (length nodes) found k less) in
    let first = eq_of_test (node_at nodes 0) (vehicle_at model v).start (right 0 (omega (arith, long))) in
    let k = length nodes - 1 in
    let last = eq_of_test (node_at nodes k) (vehicle_at model v).end
    (second_case (k == 0) (k + 1 == length nodes) (node_at nodes k == (vehicle_at model v).start)
    (node_at nodes k == (vehicle_at model v).end) (is_visit model (node_at nodes k)) (right k (omega (arith, long)))
    (ne_eqb k 0 (λ e. absurd (omega (arith, e, long)))) (test_of_eq (k + 1) (length nodes) (omega (arith, long)))) in
    with_ends nodes (omega (arith, long))
    ∙ ap (λ node. node ∷ (visits_between nodes ++ node_at nodes k ∷ [])) first
    ∙ ap (λ node. (vehicle_at model v).start ∷ (visits_between nodes ++ node ∷ [])) last
    ∙ ap (stops model v) (sym (route_is routes v))
