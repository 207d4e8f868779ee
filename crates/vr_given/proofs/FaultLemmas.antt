-- Lists have no fault exactly if they are valid.
use Rattle.std.proofs.Common.{◌≡◌, ◌∙◌, ℕ, ◌<◌, List, [], ◌∷◌, true, false, ◌||◌, Option, Some, None, length, refl, sym, ap, arith}
use Rattle.std.specs.Prelude.{IsTrue, is_none}
use Rattle.std.specs.List.{list_all}
use Rattle.vr_model.specs.deciding.Testing.{and_left, list_all_range}
use Rattle.vr_model.specs.routes.Routes.{are_lists, is_empty, route}
use Rattle.vr_model.specs.routes.Rules.{is_route_open, is_valid}
use Rattle.vr_model.specs.schedules.Choices.{is_feasible}
use Rattle.vr_model.specs.schedules.Lines.{line}
use Rattle.vr_model.specs.tables.Numbers.{below}
use Rattle.vr_model.specs.declared.records.Model.{Model}
use Rattle.vr_model.proofs.tables.Tests.{same_tests}
use Rattle.vr_reach.specs.Lists.{is_feasible_list}
use Rattle.vr_check.specs.Findings.{spot}
use Rattle.vr_check.specs.Pairs.{allowed_broken, pair_broken, policy_broken}
use Rattle.vr_check.specs.Visits.{group_broken, required_broken}
use Rattle.vr_check.specs.declared.finding.Spot.{Spot}
use Rattle.vr_check.proofs.Nothing.{at_none, is_right}
use Rattle.vr_check.proofs.Valid.{route_is_open, valid_where_lists}
use Rattle.vr_check.proofs.ValidLists.{nothing, nothing_in_groups, nothing_in_pairs, nothing_of_policies, nothing_of_vehicles, nothing_required, open_at, right}
use Rattle.vr_given.specs.ListFaults.{fault_of_lists, schedule_broken, schedule_broken_at, schedule_broken_in, unless_at}
use Rattle.vr_given.specs.declared.faults.ListFault.{ListFault}
use Rattle.vr_given.specs.declared.faults.ListRule.{ListRule}
use Rattle.vr_given.specs.declared.faults.ListRule.TheVariants.{Required, Group, Pair, Policy, Allowed, Schedule}

-- ---- one rule after another

-- if there is no fault, the first rule is broken nowhere, and the others have no fault
through : (rule : ListRule) (at : Option Spot) (rest : Option ListFault) → unless_at rule at rest ≡ None → (at ≡ None) × (rest ≡ None)
through rule None rest h = (refl, h)
through rule (Some s) rest h = absurd (cc)

-- a rule that is broken nowhere leaves the fault of the others
passes : (rule : ListRule) {at : Option Spot} {rest : Option ListFault} → at ≡ None → unless_at rule at rest ≡ rest
passes rule {rest = rest} e = ap (λ at. unless_at rule at rest) e

none_of_test : {A : Type 0} (o : Option A) → IsTrue (is_none o) → o ≡ None
none_of_test None h = refl
none_of_test (Some x) h = absurd (cc)

module _ (model : Model) (lists : List (List ℕ)) where
  -- ---- no fault, so valid

  -- the line of a used list has a schedule
  has_schedule : schedule_broken model lists ≡ None → (v : ℕ) → v < length lists → is_empty (route lists v) ≡ false
      → (d : ℕ) → d < length model.dimensions → IsTrue (is_feasible (line model d v (route lists v)))
  has_schedule none v low used d less =
      let fits = is_right (is_feasible_list model d v (route lists v)) (spot v d)
      (at_none (schedule_broken_at model v (route lists v)) (length model.dimensions)
      (at_none (schedule_broken_in model lists) (length lists) none v low) d less) in
      sym (ap (λ b. b || is_feasible (line model d v (route lists v))) used) ∙ fits

  valid_where_none : IsTrue (are_lists model lists) → fault_of_lists model lists ≡ None → IsTrue (is_valid model lists)
  unfolding fault_of_lists
  valid_where_none are h =
      let required = through Required (required_broken model lists) _ h in
      let group = through Group (group_broken model lists) _ required.1 in
      let pair = through Pair (pair_broken model lists) _ group.1 in
      let policy = through Policy (policy_broken model lists) _ pair.1 in
      let allowed = through Allowed (allowed_broken model lists) _ policy.1 in
      let schedule = through Schedule (schedule_broken model lists) None allowed.1 in
      valid_where_lists model lists are required.0 group.0 (λ v low. route_is_open model lists pair.0 policy.0 allowed.0 v low (has_schedule schedule.0 v low))

  -- ---- valid, so no fault

  fits : (v : ℕ) (list : List ℕ) → IsTrue (is_route_open model v list) → (d : ℕ) → d < length model.dimensions → is_feasible_list model d v list ≡ true
  fits v [] h d less = refl
  fits v (x ∷ xs) h d less = list_all_range (λ d. is_feasible (line model d v (x ∷ xs))) 0 (length model.dimensions)
      (and_left (list_all (λ d. is_feasible (line model d v (x ∷ xs))) (below (length model.dimensions))) _ h) d (omega arith) (omega (arith, less))

  nothing_late : IsTrue (is_valid model lists) → schedule_broken model lists ≡ None
  nothing_late valid = nothing (schedule_broken_in model lists) (length lists) (λ v low.
      nothing (schedule_broken_at model v (route lists v)) (length model.dimensions) (λ d less.
      right (is_feasible_list model d v (route lists v)) v d (fits v (route lists v) (open_at model lists valid v low) d less)))

  none_where_valid : IsTrue (is_valid model lists) → fault_of_lists model lists ≡ None
  unfolding fault_of_lists
  none_where_valid valid =
      passes Required (nothing_required model lists valid)
      ∙ (passes Group (nothing_in_groups model lists valid)
      ∙ (passes Pair (nothing_in_pairs model lists valid)
      ∙ (passes Policy (nothing_of_policies model lists valid)
      ∙ (passes Allowed (nothing_of_vehicles model lists valid)
      ∙ passes Schedule (nothing_late valid)))))

pub faultless-valid : (model : Model) (lists : List (List ℕ)) → IsTrue (are_lists model lists) → is_none (fault_of_lists model lists) ≡ is_valid model lists
faultless-valid model lists are = same_tests (is_none (fault_of_lists model lists)) (is_valid model lists)
    (λ h. valid_where_none model lists are (none_of_test (fault_of_lists model lists) h))
    (λ valid. ap is_none (none_where_valid model lists valid))
