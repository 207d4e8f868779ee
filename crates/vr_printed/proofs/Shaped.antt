-- What the shape of a route says of its lengths.
use Rattle.std.proofs.Common.{◌≡◌, ℕ, ◌-◌, ◌<◌, ◌≤◌, Bool, true, false, cond, List, [], length, drop, Some, None, Result, Ok, Err, refl, sym, ap, ◌∙◌, inl, inr}
use Rattle.std.proofs.Common.{arith}
use Rattle.std.specs.Prelude.{IsTrue, ◌==◌, nat_le, pos}
use Rattle.std.specs.Str.{bytes_eq}
use Rattle.std.proofs.lemmas.Bool.{cases_lt, eqb-true}
use Rattle.std.proofs.lemmas.Bool.Decides.{nat_tests}
use Rattle.std.proofs.lemmas.List.{length-take-le, length-drop}
use Rattle.vr_model.specs.tables.Numbers.{is_same_number}
use Rattle.vr_model.specs.tables.Tables.{dimension_at, breaks_of}
use Rattle.vr_model.specs.deciding.Testing.{and_left, and_right, list_all_range, eq_of_test}
use Rattle.vr_model.specs.declared.records.Model.{Model}
use Rattle.vr_printed.specs.Printed.{visits_between, visits_of}
use Rattle.serde_json.specs.Data.{Data}
use Rattle.vr_json.specs.declared.fault.Fault.{Fault}
use Rattle.vr_printed.specs.Tables.{solution}
use Rattle.vr_printed.specs.declared.printed.Printed.{Printed}
use Rattle.vr_printed.specs.Shape.{where_shaped, printed_in, plan_in, is_shaped_in, is_used_shaped, is_route_shaped, is_shaped_at, are_routes_shaped}
use Rattle.vr_printed.specs.declared.printed.PrintedRoute.{PrintedRoute}

-- a plan beside its route: the lengths of both
pub record HasLengths (model : Model) (v : ℕ) (route : PrintedRoute) (d : ℕ) : Type 0 where
  pub dimension : d < length model.dimensions
  pub nodes : 3 ≤ length route.nodes
  pub cumuls : length (plan_in route d).cumuls ≡ length route.nodes
  pub slacks : length (plan_in route d).slacks ≡ length route.nodes - 1
  pub breaks : length (plan_in route d).breaks ≡ length (breaks_of (dimension_at model d) v)

-- without nodes there are no plans
used : (n m : ℕ) (b : Bool) → IsTrue (cond (n == 0) (m == 0) b) → 0 < m → IsTrue b
used n m b h some = go (n == 0) refl h
  where
    go : (e : Bool) → (n == 0) ≡ e → IsTrue (cond e (m == 0) b) → IsTrue b
    go true e h = absurd (let z = eq_of_test m 0 h in omega (arith, z, some))
    go false e h = h

at_least : (n m : ℕ) → IsTrue (nat_le n m) → n ≤ m
at_least n m h = grind (arith, nat_tests)

module _ (model : Model) (v : ℕ) (route : PrintedRoute) (shaped : IsTrue (is_route_shaped model v route)) where
  used_shaped : 0 < length route.plans → IsTrue (is_used_shaped model v route)
  used_shaped some =
      used (length route.nodes) (length route.plans) (is_used_shaped model v route) (and_right (is_same_number route.vehicle (pos v)) _ shaped) some

  pub lengths_of : (d : ℕ) → d < length route.plans → HasLengths model v route d
  lengths_of d low =
      let all = used_shaped (omega (arith, low)) in
      let long = at_least 3 (length route.nodes) (and_left (nat_le 3 (length route.nodes)) _ all) in
      let rest = and_right (nat_le 3 (length route.nodes)) _ all in
      let count = eq_of_test (length route.plans) (length model.dimensions) (and_left (length route.plans == length model.dimensions) _ rest) in
      let each = and_right (length route.plans == length model.dimensions) _ rest in
      let here = list_all_range (is_shaped_in model v route) 0 (length model.dimensions) each d (omega arith) (omega (arith, low, count)) in
      let plan = plan_in route d in
      let parts = and_right (bytes_eq plan.name (dimension_at model d).name) _ here in
      let others = and_right (length plan.cumuls == length route.nodes) _ parts in
      record {
        dimension = omega (arith, low, count);
        nodes = long;
        cumuls = eq_of_test _ _ (and_left (length plan.cumuls == length route.nodes) _ parts);
        slacks = eq_of_test _ _ (and_left (length plan.slacks == length route.nodes - 1) _ others);
        breaks = eq_of_test _ _ (and_right (length plan.slacks == length route.nodes - 1) _ others);
      }

  -- there are no more plans than dimensions
  pub plans_few : length route.plans ≤ length model.dimensions
  plans_few = elim (cases_lt 0 (length route.plans)) [
    | inl some ↦ (let last = (lengths_of (length route.plans - 1) (omega (arith, some))).dimension in omega (arith, last))
    | inr none ↦ omega (arith, none)
  ]

-- the visits of a route with nodes
pub visits_long : (nodes : List ℕ) → length (visits_between nodes) ≡ length nodes - 2
visits_long nodes = length-take-le (length nodes - 2) (drop 1 nodes) (omega (arith, length-drop 1 nodes))

-- each route has the shape of its vehicle's
pub route_shaped : (model : Model) (routes : List PrintedRoute) → IsTrue (are_routes_shaped model routes)
    → (v : ℕ) → v < length routes → IsTrue (is_shaped_at model routes v)
route_shaped model routes h v low =
    list_all_range (is_shaped_at model routes) 0 (length routes) (and_right (length routes == length model.vehicles) _ h) v (omega arith) (omega (arith, low))

pub routes_count : (model : Model) (routes : List PrintedRoute) → IsTrue (are_routes_shaped model routes) → length routes ≡ length model.vehicles
routes_count model routes h = eq_of_test _ _ (and_left (length routes == length model.vehicles) _ h)

-- a route with visits has a plan for each dimension
pub plans_there : (model : Model) (v : ℕ) (route : PrintedRoute) → IsTrue (is_route_shaped model v route)
    → 0 < length (visits_of route) → length route.plans ≡ length model.dimensions
plans_there model v route shaped some = go (length route.nodes == 0) refl (and_right (is_same_number route.vehicle (pos v)) _ shaped)
  where
    go : (b : Bool) → (length route.nodes == 0) ≡ b
        → IsTrue (cond b (length route.plans == 0) (is_used_shaped model v route)) → length route.plans ≡ length model.dimensions
    go true e h = absurd (let none = eqb-true (length route.nodes) 0 e in omega (arith, none, some, visits_long route.nodes))
    go false e h = eq_of_test _ _ (and_left (length route.plans == length model.dimensions) _ (and_right (nat_le 3 (length route.nodes)) _ h))

-- a solution that was read has the right shape
pub printed_shaped : (model : Model) (d : Data) (printed : Printed) → printed_in model d ≡ Some printed → IsTrue (are_routes_shaped model printed.routes)
unfolding printed_in
printed_shaped model d printed h = of_reading (solution model.nodes [] d) h
  where
    of_test : (other : Printed) (b : Bool) → are_routes_shaped model other.routes ≡ b
        → cond b (Some other) None ≡ Some printed → IsTrue (are_routes_shaped model printed.routes)
    of_test other true e h = let same : other ≡ printed = cc in ap (λ p. are_routes_shaped model p.routes) (sym same) ∙ e
    of_test other false e h = absurd (cc)

    of_reading : (r : Result Printed Fault) → where_shaped model r ≡ Some printed → IsTrue (are_routes_shaped model printed.routes)
    of_reading (Err fault) h = absurd (cc)
    of_reading (Ok other) h = of_test other (are_routes_shaped model other.routes) refl h
