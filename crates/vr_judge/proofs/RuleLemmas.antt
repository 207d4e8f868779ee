-- The rules of all filters together are those of valid lists.
use Rattle.std.proofs.Common.{◌≡◌, ℕ, ◌<◌, List, [], ◌∷◌, length, refl, arith, subst, sym}
use Rattle.std.specs.Prelude.{◌&&◌, IsTrue, filter}
use Rattle.std.specs.List.{list_all}
use Rattle.vr_model.specs.tables.Numbers.{below}
use Rattle.vr_model.specs.deciding.Testing.{and_left, and_right, and_both, list_all_range, range_list_all}
use Rattle.vr_model.specs.routes.Routes.{route, holds, are_lists}
use Rattle.vr_model.specs.routes.Rules.{fits_group, is_open, is_route_open}
use Rattle.vr_model.specs.routes.Rules.{is_valid, keeps_policy, policy_allows, serves_pair}
use Rattle.vr_model.specs.schedules.Lines.{line}
use Rattle.vr_model.specs.schedules.Choices.{is_feasible}
use Rattle.vr_model.specs.declared.records.Model.{Model}
use Rattle.vr_model.specs.declared.records.Pair.{Pair}
use Rattle.vr_model.proofs.tables.Tests.{same_tests, list_all-true}
use Rattle.vr_reach.specs.Lists.{is_feasible_list}
use Rattle.vr_model.specs.tables.Tables.{vehicle_at}
use Rattle.vr_routes.specs.Tours.{are_routes_open}
use Rattle.vr_pathfilters.specs.Lists.{holds_of_each}
use Rattle.vr_pathfilters.proofs.PartTours.{rule_at, rule_of_all}
use Rattle.vr_pathfilters.specs.Vehicles.{is_allowed_list}
use Rattle.vr_pathfilters.specs.Groups.{keeps_groups}
use Rattle.vr_lists.specs.Pairs.{keeps_pairs}
use Rattle.vr_judge.specs.Rules.{keeps_rules}

no_pairs_in : (pairs : List Pair) → filter (λ pair. holds [] pair.pickup) pairs ≡ []
no_pairs_in [] = refl
no_pairs_in (pair ∷ pairs) = no_pairs_in pairs

module _ (model : Model) where
  -- the rules of a list by itself
  list_opens : (v : ℕ) (list : List ℕ) → IsTrue (is_allowed_list model v list) → IsTrue (keeps_pairs model v list)
      → ((d : ℕ) → d < length model.dimensions → IsTrue (is_feasible_list model d v list)) → IsTrue (is_route_open model v list)
  list_opens v [] allowed pairs feasible = refl
  list_opens v (x ∷ xs) allowed pairs feasible =
      and_both (list_all (λ d. is_feasible (line model d v (x ∷ xs))) (below (length model.dimensions))) _
      (range_list_all (λ d. is_feasible (line model d v (x ∷ xs))) 0 (length model.dimensions) (λ d low high. feasible d (omega (arith, high))))
      (and_both (list_all (serves_pair (x ∷ xs)) model.pairs) _ (and_left (list_all (serves_pair (x ∷ xs)) model.pairs) _ pairs)
      (and_both (keeps_policy model v (x ∷ xs)) _ (and_right (list_all (serves_pair (x ∷ xs)) model.pairs) _ pairs) allowed))

  -- an opens list keeps each of these rules
  open_allows : (v : ℕ) (list : List ℕ) → IsTrue (is_route_open model v list) → IsTrue (is_allowed_list model v list)
  open_allows v [] opens = refl
  open_allows v (x ∷ xs) opens =
      and_right (keeps_policy model v (x ∷ xs)) _
      (and_right (list_all (serves_pair (x ∷ xs)) model.pairs) _
      (and_right (list_all (λ d. is_feasible (line model d v (x ∷ xs))) (below (length model.dimensions))) _ opens))

  open_serves : (v : ℕ) (list : List ℕ) → IsTrue (is_route_open model v list) → IsTrue (keeps_pairs model v list)
  open_serves v [] opens =
      and_both (list_all (serves_pair []) model.pairs) _ (list_all-true (serves_pair []) (λ pair. refl) model.pairs)
      (subst (λ pairs. IsTrue (list_all (λ x. list_all (λ y. policy_allows (vehicle_at model v).policy [] x y) pairs) pairs))
      (sym (no_pairs_in model.pairs)) refl)
  open_serves v (x ∷ xs) opens =
      let served = and_right (list_all (λ d. is_feasible (line model d v (x ∷ xs))) (below (length model.dimensions))) _ opens in
      let rest = and_right (list_all (serves_pair (x ∷ xs)) model.pairs) _ served in
      and_both (list_all (serves_pair (x ∷ xs)) model.pairs) _
      (and_left (list_all (serves_pair (x ∷ xs)) model.pairs) _ served) (and_left (keeps_policy model v (x ∷ xs)) _ rest)

  open_goes : (v : ℕ) (list : List ℕ) → IsTrue (is_route_open model v list) → (d : ℕ) → d < length model.dimensions → IsTrue (is_feasible_list model d v list)
  open_goes v [] opens d low = refl
  open_goes v (x ∷ xs) opens d low =
      list_all_range (λ e. is_feasible (line model e v (x ∷ xs))) 0 (length model.dimensions)
      (and_left (list_all (λ e. is_feasible (line model e v (x ∷ xs))) (below (length model.dimensions))) _ opens) d (omega arith) (omega (arith, low))

  module _ (lists : List (List ℕ)) where
    -- lists of the model that keep the rules of all filters are valid, and the other way round
    valid_where_kept : IsTrue (are_lists model lists) → IsTrue (keeps_rules model lists) → IsTrue (is_valid model lists)
    unfolding is_valid is_open
    valid_where_kept are keeps =
        let groups = and_left (keeps_groups model lists) _ keeps in
        let rest = and_right (keeps_groups model lists) _ keeps in
        let allowed = and_left (holds_of_each (is_allowed_list model) lists) _ rest in
        let others = and_right (holds_of_each (is_allowed_list model) lists) _ rest in
        let pairs = and_left (holds_of_each (keeps_pairs model) lists) _ others in
        let feasible = and_right (holds_of_each (keeps_pairs model) lists) _ others in
        let goes : (v : ℕ) → v < length lists → (d : ℕ) → d < length model.dimensions → IsTrue (is_feasible_list model d v (route lists v)) =
        λ v low d there. rule_at (is_feasible_list model d) lists
        (list_all_range (λ e. holds_of_each (is_feasible_list model e) lists) 0 (length model.dimensions) feasible d (omega arith) (omega (arith, there))) v
        low in
        and_both (are_lists model lists) _ are
        (and_both _ _
        (and_both (are_routes_open model lists) _
        (rule_of_all (is_route_open model) lists
        (λ v low. list_opens v (route lists v) (rule_at (is_allowed_list model) lists allowed v low)
        (rule_at (keeps_pairs model) lists pairs v low) (goes v low)))
        (and_left (list_all (fits_group lists) model.groups) _ groups))
        (and_right (list_all (fits_group lists) model.groups) _ groups))

    pub kept_where_valid : IsTrue (is_valid model lists) → IsTrue (keeps_rules model lists)
    unfolding is_valid is_open
    kept_where_valid valid =
        let rest = and_right (are_lists model lists) _ valid in
        let opens = and_left (are_routes_open model lists && list_all (fits_group lists) model.groups) _ rest in
        let enough = and_right (are_routes_open model lists && list_all (fits_group lists) model.groups) _ rest in
        let routes = and_left (are_routes_open model lists) _ opens in
        let fits = and_right (are_routes_open model lists) _ opens in
        let each : (v : ℕ) → v < length lists → IsTrue (is_route_open model v (route lists v)) = rule_at (is_route_open model) lists routes in
        and_both (keeps_groups model lists) _ (and_both (list_all (fits_group lists) model.groups) _ fits enough)
        (and_both (holds_of_each (is_allowed_list model) lists) _
        (rule_of_all (is_allowed_list model) lists (λ v low. open_allows v (route lists v) (each v low)))
        (and_both (holds_of_each (keeps_pairs model) lists) _ (rule_of_all (keeps_pairs model) lists (λ v low. open_serves v (route lists v) (each v low)))
        (range_list_all (λ d. holds_of_each (is_feasible_list model d) lists) 0 (length model.dimensions)
        (λ d low high. rule_of_all (is_feasible_list model d) lists (λ v there. open_goes v (route lists v) (each v there) d (omega (arith, high)))))))

    pub kept_as_valid : IsTrue (are_lists model lists) → keeps_rules model lists ≡ is_valid model lists
    kept_as_valid are = same_tests (keeps_rules model lists) (is_valid model lists) (valid_where_kept are) kept_where_valid
