-- The assignment of lists at their chosen schedules.
use Rattle.std.proofs.Common.{◌≡◌, ℕ, suc, ◌<◌, Bool, true, false, cond, List, [], ◌∷◌, length, Option, Some, None, refl, sym, ◌∙◌, ap, subst, arith}
use Rattle.std.specs.Prelude.{IsTrue, ◌||◌, is_some, slice_index_or, unwrap_or}
use Rattle.std.specs.List.{list_all}
use Rattle.std.proofs.lemmas.List.FromFn.{get_or-map-range_with_len, length-map-range_with_len}
use Rattle.vr_model.specs.tables.Numbers.{below}
use Rattle.vr_model.specs.routes.Routes.{route, is_empty, vehicles}
use Rattle.vr_model.specs.schedules.Lines.{line}
use Rattle.vr_model.specs.schedules.Schedules.{Plan, IsSchedule}
use Rattle.vr_model.specs.schedules.Choices.{chosen, is_feasible}
use Rattle.vr_model.specs.routes.Rules.{is_route_open, fits_group, is_open}
use Rattle.vr_model.specs.routes.Costs.{no_plan, chosen_plans, assigned}
use Rattle.vr_model.specs.routes.AssignmentLaws.{ChosenPlansAreThere, OpenMeetsItsLines}
use Rattle.vr_model.specs.deciding.Testing.{and_left, list_all_range}
use Rattle.vr_model.proofs.tables.Tests.{clash}
use Rattle.vr_model.specs.declared.records.Model.{Model}
use Rattle.vr_model.proofs.schedules.ChoiceLaws.{chosen_is, feasible_is}
use Rattle.vr_model.proofs.schedules.LineArcs.{stops_of_line}
use Rattle.vr_model.proofs.schedules.UnderRules.{chosen_under_where_feasible, narrowed_keeps_rules}
use Rattle.vr_model.specs.schedules.Narrowed.{chosen_line}
use Rattle.vr_model.specs.tables.Tables.{vehicle_at}
use Rattle.vr_model.specs.declared.records.ScheduleRule.{ScheduleRule}

-- the plan of a vehicle with a list whose line is feasible is a schedule of the line
schedule_chosen : (model : Model) (d v : ℕ) (list : List ℕ) → IsTrue (is_feasible (line model d v list))
    → IsSchedule (line model d v list) (unwrap_or (chosen (chosen_line model d v list)) no_plan)
schedule_chosen model d v list h =
    go (chosen (chosen_line model d v list)) refl ((chosen_under_where_feasible rule (line model d v list) stops).1 (feasible_is (line model d v list) h))
  where
    rule : ScheduleRule
    rule = (vehicle_at model v).schedule

    stops : length (line model d v list).allowed ≡ suc (length (line model d v list).arcs)
    stops = stops_of_line model d v list

    go : (o : Option Plan) → chosen (chosen_line model d v list) ≡ o → IsTrue (is_some o) → IsSchedule (line model d v list) (unwrap_or o no_plan)
    go (Some plan) e t =
        narrowed_keeps_rules (vehicle_at model v).schedule (line model d v list) stops plan (chosen_is (chosen_line model d v list) plan e).schedule
    go None e t = absurd (clash false t refl)

module _ (model : Model) where
  length_chosen : (v : ℕ) (list : List ℕ) → length (chosen_plans model v list) ≡ cond (is_empty list) 0 (length model.dimensions)
  length_chosen v [] = refl
  length_chosen v (x ∷ xs) = length-map-range_with_len (λ d. unwrap_or (chosen (chosen_line model d v (x ∷ xs))) no_plan) 0 (length model.dimensions)

  plan_chosen : (d v : ℕ) (list : List ℕ) → d < length model.dimensions → is_empty list ≡ false
      → slice_index_or (chosen_plans model v list) d no_plan ≡ unwrap_or (chosen (chosen_line model d v list)) no_plan
  plan_chosen d v [] low some = absurd (clash true refl some)
  plan_chosen d v (x ∷ xs) low some =
      get_or-map-range_with_len (λ d. unwrap_or (chosen (chosen_line model d v (x ∷ xs))) no_plan) 0 (length model.dimensions) d d no_plan low (omega arith)

  module _ (lists : List (List ℕ)) where
    plans_of : (v : ℕ) → v < length lists → slice_index_or (assigned model lists).plans v [] ≡ chosen_plans model v (route lists v)
    plans_of v low = get_or-map-range_with_len (λ v. chosen_plans model v (route lists v)) 0 (length lists) v v [] low (omega arith)

    feasible_there : IsTrue (is_open model lists) → (d v : ℕ) → d < length model.dimensions → v < length lists
        → is_empty (route lists v) ≡ false → IsTrue (is_feasible (line model d v (route lists v)))
    unfolding is_open
    feasible_there h d v low known some =
        let each = and_left (list_all (λ v. is_route_open model v (route lists v)) (vehicles lists)) (list_all (fits_group lists) model.groups) h in
        let here = list_all_range (λ v. is_route_open model v (route lists v)) 0 (length lists) each v (omega arith) (omega (arith, known)) in
        list_all_range (λ d. is_feasible (line model d v (route lists v))) 0 (length model.dimensions)
        (and_left (list_all (λ d. is_feasible (line model d v (route lists v))) (below (length model.dimensions)))
        _ (filled (is_empty (route lists v)) some here)) d (omega arith) (omega (arith, low))
      where
        filled : {b : Bool} → (a : Bool) → a ≡ false → IsTrue (a || b) → IsTrue b
        filled true e h = absurd (clash true refl e)
        filled false e h = h

pub chosen_plans_are_there : ChosenPlansAreThere
chosen_plans_are_there model lists = record {
  of_each_vehicle = length-map-range_with_len (λ v. chosen_plans model v (route lists v)) 0 (length lists);
  in_each_dimension = λ v low. ap length (plans_of model lists v low) ∙ length_chosen model v (route lists v);
}

pub open_meets_its_lines : OpenMeetsItsLines
open_meets_its_lines model lists h d v low known some =
    subst (IsSchedule (line model d v (route lists v)))
    (sym (ap (λ plans. slice_index_or plans d no_plan) (plans_of model lists v known) ∙ plan_chosen model d v (route lists v) low some))
    (schedule_chosen model d v (route lists v) (feasible_there model lists h d v low known some))
