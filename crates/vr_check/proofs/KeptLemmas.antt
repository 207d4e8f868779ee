-- What a solution keeps of each of its routes, and a route of each of its plans.
use Rattle.std.proofs.Common.{◌≡◌, ◌<◌, ◌≤◌, ℕ, List, [], get_or, length, sym, ap, subst, ◌∙◌, arith}
use Rattle.std.specs.Prelude.{IsTrue, slice_index_or}
use Rattle.std.specs.List.{list_all}
use Rattle.std.proofs.lemmas.List.{get_or_default, length-map}
use Rattle.vr_model.specs.tables.Tables.{is_visit}
use Rattle.vr_model.specs.tables.WellFormed.{IsWellFormed}
use Rattle.vr_model.specs.routes.Routes.{route}
use Rattle.vr_model.specs.declared.records.Model.{Model}
use Rattle.vr_model.proofs.routes.Lists.{route-visits, route-few}
use Rattle.vr_printed.specs.Printed.{no_route, visits_of}
use Rattle.vr_printed.specs.Shape.{is_route_shaped, plan_in}
use Rattle.vr_printed.specs.declared.printed.Printed.{Printed}
use Rattle.vr_printed.specs.declared.printed.PrintedPlan.{PrintedPlan}
use Rattle.vr_printed.specs.declared.printed.PrintedRoute.{PrintedRoute}
use Rattle.vr_printed.proofs.Shaped.{lengths_of, plans_few, route_shaped, routes_count, visits_long}
use Rattle.vr_check.specs.Kept.{FitsLine, IsLineOfModel, IsRouteOf, IsSolutionOf}
use Rattle.vr_check.proofs.PrintedLists.{route_is}

module _ (model : Model) (printed : Printed) (lists : List (List ℕ)) (routes : List PrintedRoute) (of : IsSolutionOf model printed lists routes) where
  -- there are no more lists than routes
  pub lists_count : length lists ≡ length routes
  lists_count = ap length of.lists_are ∙ length-map routes visits_of

  -- there are at most a hundred routes
  pub few_routes : IsWellFormed model → length routes ≤ 100
  few_routes well = omega (arith, routes_count model routes of.shaped, well.number_of_vehicles.at_most)

  -- the route of a vehicle
  route_kept : IsWellFormed model → (v : ℕ) → v < length routes → (list : List ℕ) (other : PrintedRoute)
      → list ≡ route lists v → other ≡ slice_index_or routes v no_route → IsRouteOf model v list other
  route_kept well v low list other e r = record {
    vehicle = omega (arith, low, routes_count model routes of.shaped);
    same = e ∙ ap (λ lists. route lists v) of.lists_are ∙ route_is routes v ∙ ap visits_of (sym r);
    visits = subst (λ list. IsTrue (list_all (is_visit model) list)) (sym e) (route-visits model lists v of.visits);
    few = omega (arith, ap length e, route-few model lists v of.visits, well.number_of_nodes.1);
    shaped = subst (λ route. IsTrue (is_route_shaped model v route)) (sym r) (route_shaped model routes of.shaped v low);
  }

  -- the route of a vehicle, as indices into lists and routes give its parts
  pub route_kept_at : IsWellFormed model → (v : ℕ) → v < length routes → (list at : List ℕ) (other : PrintedRoute)
      → list ≡ at → at ≡ get_or lists v at → other ≡ get_or routes v other → IsRouteOf model v list other
  route_kept_at well v low list at other same l r =
      let there : v < length lists = omega (arith, low, lists_count) in
      route_kept well v low list other (same ∙ (l ∙ get_or_default lists v at [] there)) (r ∙ get_or_default routes v other no_route low)

module _ (model : Model) (v : ℕ) (list : List ℕ) (route : PrintedRoute) (of : IsRouteOf model v list route) (d : ℕ) (low : d < length route.plans) where
  -- the line of a plan
  pub line_kept : IsWellFormed model → IsLineOfModel model d v list
  line_kept well =
      record { well_formed = well; dimension = (lengths_of model v route of.shaped d low).dimension; vehicle = of.vehicle; visits = of.visits; few = of.few }

  -- the plan itself
  pub plan_fits : (plan : PrintedPlan) → plan_in route d ≡ plan → FitsLine model d v list plan
  plan_fits plan same =
      let lengths = lengths_of model v route of.shaped d low in
      let long = ap length of.same ∙ visits_long route.nodes in
      subst (FitsLine model d v list) same (record {
        cumuls = omega (arith, lengths.cumuls, lengths.nodes, long);
        slacks = omega (arith, lengths.slacks, lengths.nodes, long);
        breaks = lengths.breaks;
      })

-- a route has at most four plans
pub four_plans : (model : Model) (v : ℕ) (list : List ℕ) (route : PrintedRoute) → IsRouteOf model v list route → IsWellFormed model → length route.plans ≤ 4
four_plans model v list route of well = omega (arith, plans_few model v route of.shaped, well.number_of_dimensions)
