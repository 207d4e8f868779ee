-- The printed lists are valid, where the rules on lists and plans find nothing.
use Rattle.std.proofs.Common.{◌≡◌, ℕ, zero, suc, ◌+◌, ◌<◌, ◌≤◌, Bool, true, false, cond, not, ◌&&◌, ◌||◌, ◌==◌, List, [], ◌∷◌, length, get_or, refl, ap, ◌∙◌}
use Rattle.std.proofs.Common.{arith}
use Rattle.std.specs.Prelude.{IsTrue, None, filter, slice_index_or}
use Rattle.std.specs.List.{list_all, concat, range_with_len}
use Rattle.std.proofs.lemmas.List.Folds.{list_all-append}
use Rattle.vr_model.specs.tables.Numbers.{below}
use Rattle.vr_model.specs.tables.Tables.{is_visit, pair_at, visits}
use Rattle.vr_model.specs.routes.Routes.{route, is_active, is_distinct, are_lists, is_empty, vehicles}
use Rattle.vr_model.specs.schedules.Lines.{line}
use Rattle.vr_model.specs.schedules.Choices.{is_feasible}
use Rattle.vr_model.specs.routes.Rules.{serves_pair, keeps_policy, allows_vehicle, is_route_open, fits_group, active_in, is_open, is_grouped, has_enough}
use Rattle.vr_model.specs.routes.Rules.{has_required, is_valid}
use Rattle.vr_model.specs.deciding.Testing.{and_left, and_right, and_both, test_of_eq, range_list_all}
use Rattle.vr_model.specs.declared.records.Model.{Model}
use Rattle.vr_model.proofs.tables.Tests.{all-from_list_all}
use Rattle.vr_check.specs.Findings.{spot, spot_of_vehicle, spot_of_none}
use Rattle.vr_check.specs.Lists.{node_at, stands_before, once_broken_at, once_broken_in, once_broken}
use Rattle.vr_check.specs.Visits.{is_missing, required_broken_at, required_broken, has_right_number, no_group, group_broken_at, group_broken}
use Rattle.vr_check.specs.Pairs.{is_served, pair_broken_at, pair_broken, policy_broken_in, policy_broken, allowed_broken_at, allowed_broken_in, allowed_broken}
use Rattle.vr_check.proofs.Nothing.{at_none, is_right, is_not_wrong, all_at}
use Rattle.vr_check.proofs.PrintedLists.{HasVisits}
use Rattle.vr_check.proofs.Distinct.{all_distinct}

-- tests of the entries of all lists
concat_all : (p : ℕ → Bool) (lists : List (List ℕ)) → ((v : ℕ) → v < length lists → list_all p (route lists v) ≡ true) → list_all p (concat lists) ≡ true
concat_all p [] h = refl
concat_all p (list ∷ lists) h = list_all-append p list (concat lists)
    ∙ and_both (list_all p list) (list_all p (concat lists)) (h 0 (omega arith)) (concat_all p lists (λ v low. h (suc v) (omega (arith, low))))

-- what a filter keeps passes where each number does or fails the filter
filtered : (p q : ℕ → Bool) (a n : ℕ) → ((k : ℕ) → a ≤ k → k < a + n → (q k && not (p k)) ≡ false) → list_all p (filter q (range_with_len a n)) ≡ true
filtered p q a zero h = refl
filtered p q a (suc n) h =
    go (q a) (p a) refl refl (h a (omega arith) (omega arith)) (filtered p q (a + 1) n (λ k low high. h k (omega (arith, low)) (omega (arith, high))))
  where
    go : (x y : Bool) → q a ≡ x → p a ≡ y → (q a && not (p a)) ≡ false → list_all p (filter q (range_with_len (a + 1) n)) ≡ true
        → list_all p (cond (q a) (a ∷ filter q (range_with_len (a + 1) n)) (filter q (range_with_len (a + 1) n))) ≡ true
    go true true e f t rest = ap (λ b. list_all p (cond b (a ∷ filter q (range_with_len (a + 1) n)) (filter q (range_with_len (a + 1) n)))) e
        ∙ and_both (p a) _ f rest
    go true false e f t rest = absurd (cc)
    go false y e f t rest = ap (λ b. list_all p (cond b (a ∷ filter q (range_with_len (a + 1) n)) (filter q (range_with_len (a + 1) n)))) e ∙ rest

either : (visit active grouped : Bool) → ((visit && not active) && not grouped) ≡ false → (visit && not (grouped || active)) ≡ false
either true true true h = refl
either true true false h = refl
either true false true h = refl
either true false false h = absurd (cc)
either false active grouped h = refl

module _ (model : Model) (lists : List (List ℕ)) where
  pub lists_are : length lists ≡ length model.vehicles → HasVisits model lists → once_broken lists ≡ None → IsTrue (are_lists model lists)
  lists_are count visits once =
      and_both (length lists == length model.vehicles) _ (test_of_eq _ _ count)
      (and_both (list_all (is_visit model) (concat lists)) (is_distinct (concat lists)) (concat_all (is_visit model) lists visits)
      (all_distinct lists
      (λ v k low less. is_not_wrong (stands_before lists v (route lists v) k) (spot v (k + 1))
      (at_none (once_broken_at lists v (route lists v)) (length (route lists v)) (at_none (once_broken_in lists) (length lists) once v low) k less))))

  -- the list of a vehicle is open
  pub route_is_open : pair_broken model lists ≡ None → policy_broken model lists ≡ None → allowed_broken model lists ≡ None
      → (v : ℕ) → v < length lists
      → (is_empty (route lists v) ≡ false → (d : ℕ) → d < length model.dimensions → IsTrue (is_feasible (line model d v (route lists v))))
      → IsTrue (is_route_open model v (route lists v))
  route_is_open pairs policies allowed v low feasible = go (is_empty (route lists v)) refl
    where
      served : (p : ℕ) → p < length model.pairs → serves_pair (route lists v) (pair_at model p) ≡ true
      served p less = all-from_list_all (λ list. serves_pair list (pair_at model p)) lists
          (is_right (is_served lists (pair_at model p)) (spot_of_none p) (at_none (pair_broken_at model lists) (length model.pairs) pairs p less)) v [] low

      allows : (k : ℕ) → k < length (route lists v) → allows_vehicle model v (get_or (route lists v) k 0) ≡ true
      allows k less = is_right (allows_vehicle model v (node_at (route lists v) k)) (spot v (k + 1))
          (at_none (allowed_broken_at model v (route lists v)) (length (route lists v))
          (at_none (allowed_broken_in model lists) (length lists) allowed v low) k less)

      go : (b : Bool) → is_empty (route lists v) ≡ b → IsTrue (is_route_open model v (route lists v))
      go true e = ap (λ b. b || (list_all (λ d. is_feasible (line model d v (route lists v))) (below (length model.dimensions))
          && (list_all (serves_pair (route lists v)) model.pairs
          && (keeps_policy model v (route lists v) && list_all (allows_vehicle model v) (route lists v))))) e
      go false e = ap (λ b. b || (list_all (λ d. is_feasible (line model d v (route lists v))) (below (length model.dimensions))
          && (list_all (serves_pair (route lists v)) model.pairs
          && (keeps_policy model v (route lists v) && list_all (allows_vehicle model v) (route lists v))))) e
          ∙ and_both (list_all (λ d. is_feasible (line model d v (route lists v))) (below (length model.dimensions)))
          _ (range_list_all (λ d. is_feasible (line model d v (route lists v))) 0
          (length model.dimensions) (λ d from less. feasible e d (omega (arith, less))))
          (and_both (list_all (serves_pair (route lists v)) model.pairs) _
          (all_at (serves_pair (route lists v)) (record { pickup = 0; delivery = 0 }) model.pairs served)
          (and_both (keeps_policy model v (route lists v)) _
          (is_right (keeps_policy model v (route lists v)) (spot_of_vehicle v) (at_none (policy_broken_in model lists) (length lists) policies v low))
          (all_at (allows_vehicle model v) 0 (route lists v) allows)))

  groups_right : group_broken model lists ≡ None → (g : ℕ) → g < length model.groups → has_right_number lists (slice_index_or model.groups g no_group) ≡ true
  groups_right groups g less = is_right (has_right_number lists (slice_index_or model.groups g no_group))
      (spot_of_none g) (at_none (group_broken_at model lists) (length model.groups) groups g less)

  pub valid_where_lists : IsTrue (are_lists model lists) → required_broken model lists ≡ None → group_broken model lists ≡ None
      → ((v : ℕ) → v < length lists → IsTrue (is_route_open model v (route lists v))) → IsTrue (is_valid model lists)
  unfolding is_valid is_open
  valid_where_lists are required groups each =
      and_both (are_lists model lists) _ are
      (and_both (list_all (λ v. is_route_open model v (route lists v)) (vehicles lists) && list_all (fits_group lists) model.groups) _
      (and_both (list_all (λ v. is_route_open model v (route lists v)) (vehicles lists)) (list_all (fits_group lists) model.groups)
      (range_list_all (λ v. is_route_open model v (route lists v)) 0 (length lists) (λ v from less. each v (omega (arith, less))))
      (all_at (fits_group lists) no_group model.groups
      (λ g less. and_left (fits_group lists (slice_index_or model.groups g no_group)) _ (groups_right groups g less))))
      (and_both (has_required model lists) _ all_required
      (all_at (λ group. has_enough group.penalty group.max (active_in lists group)) no_group model.groups
      (λ g less. and_right (fits_group lists (slice_index_or model.groups g no_group)) _ (groups_right groups g less)))))
    where
      all_required : IsTrue (has_required model lists)
      all_required = filtered (λ node. is_grouped model node || is_active lists node) (is_visit model) 0 model.nodes
          (λ k low high. either (is_visit model k) (is_active lists k) (is_grouped model k)
          (is_not_wrong (is_missing model lists k) (spot_of_none k)
          (at_none (required_broken_at model lists) model.nodes required k (omega (arith, high)))))

  pub lists_valid_from : length lists ≡ length model.vehicles → HasVisits model lists
      → once_broken lists ≡ None → required_broken model lists ≡ None → group_broken model lists ≡ None
      → ((v : ℕ) → v < length lists → IsTrue (is_route_open model v (route lists v))) → IsTrue (is_valid model lists)
  lists_valid_from count visits once = valid_where_lists (lists_are count visits once)
