-- Solutions that are printed.
use Rattle.std.proofs.Common.{◌≡◌, ◌∙◌, ℕ, List, Option, Some, None, ℤ, length, refl, ap, sym, subst, arith}
use Rattle.std.specs.Prelude.{IfSome, IsTrue, is_some, unwrap_or, ◌≤ℤ◌}
use Rattle.std.proofs.lemmas.Int.{ints}
use Rattle.vr_model.specs.declared.records.Improve.{Improve}
use Rattle.vr_model.specs.declared.records.Improve.TheVariants as improve
use Rattle.vr_model.specs.declared.records.Model.{Model}
use Rattle.vr_model.specs.declared.records.ScheduleRule.{ScheduleRule}
use Rattle.vr_model.specs.search.Outcomes.{Outcome}
use Rattle.vr_model.specs.routes.Costs.{assigned, cost, no_plan}
use Rattle.vr_model.specs.routes.Routes.{inactive, route}
use Rattle.vr_model.specs.routes.Rules.{is_open, is_valid}
use Rattle.vr_model.specs.schedules.Lines.{Line, line}
use Rattle.vr_model.specs.schedules.Narrowed.{chosen_under}
use Rattle.vr_model.specs.schedules.RuleLaws.{HasStops}
use Rattle.vr_model.specs.schedules.Schedules.{IsSchedule, Plan}
use Rattle.vr_model.specs.schedules.Tight.{IsChosenUnder}
use Rattle.vr_model.specs.tables.Tables.{vehicle_at}
use Rattle.vr_model.specs.tables.WellFormed.{IsWellFormed}
use Rattle.vr_model.specs.deciding.Testing.{and_left, and_right}
use Rattle.vr_model.proofs.routes.CostFits.{costs_are_bounded}
use Rattle.vr_model.proofs.routes.Assigned.{chosen_plans_are_there, open_meets_its_lines}
use Rattle.vr_model.proofs.schedules.LineArcs.{stops_of_line}
use Rattle.vr_model.proofs.schedules.UnderRules.{chosen_under_is_chosen, chosen_under_where_feasible}
use Rattle.vr_descent.specs.Answering.{IsSoundAnswer}
use Rattle.vr_descent.proofs.AnswerLemmas.{descent_is_sound}
use Rattle.vr_guided.proofs.AnswerLemmas.{guided_is_sound}
use Rattle.vr_lns.proofs.AnswerLemmas.{path_lns_is_sound}
use Rattle.vr_tabu.proofs.AnswerLemmas.{tabu_is_sound}
use Rattle.vr_print.proofs.TreeLemmas.{plan-at}
use Rattle.vr_app.proofs.printing.AllMet.{printed_meets}
use Rattle.vr_app.specs.Improved.{improved, lambda_of, limit_of, untried}
use Rattle.vr_app.specs.Found.{Found, found_from, line_of_found, searched}
use Rattle.vr_app.specs.Solutions.{HasChosenPlans, IsInLimits, IsSolution, PrintsBegun}
use Rattle.vr_app.specs.Texts.{summary_of, used}
use Rattle.vr_app.specs.declared.texts.Summary.{Summary}
use Rattle.vr_app.specs.declared.words.Mode.{Mode}
use Rattle.vr_app.specs.declared.words.Mode.TheVariants as mode
use Rattle.vr_routes.specs.Tours.{Tours}
use Rattle.vr_rules.specs.Placing.{lists_in}
use Rattle.vr_rules.proofs.TotalLemmas.{sum-is_cost}

-- routes of lists that are valid if they are there
pub valid_in : (model : Model) (begun : Option (List (List ℕ)))
    → ((lists : List (List ℕ)) → begun ≡ Some lists → IsTrue (is_valid model lists)) → (first : Option Tours) → lists_in first ≡ begun
    → IfSome first (λ routes. IsTrue (is_valid model routes.lists))
valid_in model begun valid None e = tt
valid_in model begun valid (Some routes) e = valid routes.lists (sym e)

valid-open : (model : Model) (lists : List (List ℕ)) → IsTrue (is_valid model lists) → IsTrue (is_open model lists)
unfolding is_valid
valid-open model lists h = and_left (is_open model lists) _ (and_right _ _ h)

-- a line with a schedule has the one that a rule chooses
chosen-of : (rule : ScheduleRule) (line : Line) → HasStops line → (plan : Plan)
    → IsSchedule line plan → IsChosenUnder rule line (unwrap_or (chosen_under rule line) no_plan)
chosen-of rule line stops plan is = by (chosen_under rule line) refl ((chosen_under_where_feasible rule line stops).1 (plan, is))
  where
    by : (o : Option Plan) → chosen_under rule line ≡ o → IsTrue (is_some o) → IsChosenUnder rule line (unwrap_or o no_plan)
    by None e h = absurd cc
    by (Some p) e h = (chosen_under_is_chosen rule line stops p).0 e

chosen-plans : (model : Model) (lists : List (List ℕ)) → IsTrue (is_valid model lists) → HasChosenPlans model (assigned model lists)
chosen-plans model lists valid d v low known used =
    let meets = open_meets_its_lines model lists (valid-open model lists valid) d v low known used in
    let rule = (vehicle_at model v).schedule in
    let stops = stops_of_line model d v (route lists v) in
    subst (IsChosenUnder rule (line model d v (route lists v))) (sym (plan-at model lists d v low known used))
    (chosen-of rule (line model d v (route lists v)) stops _ meets)

-- valid lists at their chosen schedules are a solution
pub is-solution : (model : Model) (first lists : List (List ℕ)) → IsTrue (is_valid model lists)
    → cost model lists ≤ℤ cost model first → IsSolution model first (assigned model lists)
is-solution model first lists valid no_dearer = record {
  valid = valid;
  plans = chosen_plans_are_there model lists;
  chosen = chosen-plans model lists valid;
  cost_is = sum-is_cost model lists;
  no_dearer_than_first = subst (λ z. z ≤ℤ cost model first) (sym (sum-is_cost model lists)) no_dearer;
}

-- the lists of a search are valid and cost no more than the first, and its report is within the limits
pub record IsSound (model : Model) (first : List (List ℕ)) (outcome : Outcome) : Type 0 where
  pub valid : IsTrue (is_valid model outcome.best)
  pub no_dearer : cost model outcome.best ≤ℤ cost model first
  pub in_limits : IsInLimits model outcome.report

untried-sound : (model : Model) (first : List (List ℕ)) → IsWellFormed model → IsTrue (is_valid model first) → IsSound model first (untried first)
untried-sound model first well_formed valid = record {
  valid = valid;
  no_dearer = omega (arith, ints);
  in_limits = record { tries = omega arith; some_solution = omega arith; solutions = well_formed.search_in_range.solutions_in_range.0 };
}

answer-sound : (model : Model) (first : List (List ℕ)) (outcome : Outcome) → IsSoundAnswer model first (limit_of model) outcome → IsSound model first outcome
answer-sound model first outcome is = record {
  valid = is.best_valid;
  no_dearer = is.no_dearer;
  in_limits = record { tries = is.tries; some_solution = is.some_solution; solutions = is.solutions };
}

pub improved-sound : (how : Improve) (model : Model) (first : List (List ℕ)) → IsWellFormed model
    → IsTrue (is_valid model first) → IsSound model first (improved how model first)
improved-sound improve.None model first well_formed valid = untried-sound model first well_formed valid
improved-sound improve.GreedyDescent model first well_formed valid =
    answer-sound model first _ (descent_is_sound model first (limit_of model) valid well_formed.search_in_range.solutions_in_range.0)
improved-sound improve.PathLns model first well_formed valid =
    answer-sound model first _ (path_lns_is_sound model first (limit_of model) model.search.cut valid well_formed.search_in_range.solutions_in_range.0).sound
improved-sound improve.TabuSearch model first well_formed valid =
    answer-sound model first _ (tabu_is_sound model first (limit_of model) model.search.tenure valid well_formed.search_in_range.solutions_in_range.0)
improved-sound improve.GuidedLocalSearch model first well_formed valid =
    answer-sound model first _ (guided_is_sound model first (limit_of model) (lambda_of model) valid well_formed.search_in_range.solutions_in_range.0)

pub searched-sound : (asked : Mode) (model : Model) (first : List (List ℕ)) → IsWellFormed model
    → IsTrue (is_valid model first) → IsSound model first (searched asked model first)
searched-sound mode.First model first well_formed valid = untried-sound model first well_formed valid
searched-sound mode.Solve model first well_formed valid = improved-sound model.search.improve model first well_formed valid
searched-sound mode.Log model first well_formed valid = improved-sound model.search.improve model first well_formed valid

-- what a sound search found is printed as a solution
pub sound-printed : (model : Model) (found : Found) → IsWellFormed model → IsTrue (is_valid model found.first) → IsSound model found.first found.outcome
    → (begins : List (List ℕ) → Type 0) → begins found.first → PrintsBegun begins model (line_of_found model found)
unfolding line_of_found
sound-printed model found well_formed valid sound begins e =
    let bounds = costs_are_bounded model well_formed found.first valid in
    let limits = sound.in_limits in
    record {
      first = found.first;
      assignment = assigned model found.outcome.best;
      report = found.outcome.report;
      is_first = e;
      is_solution = is-solution model found.first found.outcome.best sound.valid sound.no_dearer;
      is_in_limits = sound.in_limits;
      text_is = refl;
      meets = printed_meets model well_formed found.outcome.best sound.valid (cost model found.first) sound.no_dearer (omega (arith, ints, bounds.greatest))
          found.outcome.report limits.tries limits.some_solution limits.solutions;
    }

-- so is what is found from valid lists
pub found-printed : (asked : Mode) (model : Model) (first : List (List ℕ)) → IsWellFormed model
    → IsTrue (is_valid model first) → (begins : List (List ℕ) → Type 0) → begins first
    → PrintsBegun begins model (line_of_found model (found_from asked model first))
found-printed asked model first well_formed valid begins e =
    sound-printed model (found_from asked model first) well_formed valid (searched-sound asked model first well_formed valid) begins e

-- a summary of these numbers
abbrev pub summary_with : ℕ → ℤ → ℤ → ℕ → ℕ → ℕ → Summary
summary_with n total first dropped busy tries = record { number = n; cost = total; first_cost = first; dropped = dropped; used = busy; tries = tries }

-- it is that of what was found, where each number is
pub summary-is : (n : ℕ) (model : Model) (found : Found) (total first : ℤ) (dropped busy tries : ℕ)
    → total ≡ cost model found.outcome.best → first ≡ cost model found.first
    → dropped ≡ length (inactive model found.outcome.best) → busy ≡ used found.outcome.best → tries ≡ found.outcome.report.tries
    → summary_with n total first dropped busy tries ≡ summary_of n model found
summary-is n model found total first dropped busy tries a b c d e =
    ap (λ z. summary_with n z first dropped busy tries) a
    ∙ ap (λ z. summary_with n (cost model found.outcome.best) z dropped busy tries) b
    ∙ ap (λ k. summary_with n (cost model found.outcome.best) (cost model found.first) k busy tries) c
    ∙ ap (λ k. summary_with n (cost model found.outcome.best) (cost model found.first) (length (inactive model found.outcome.best)) k tries) d
    ∙ ap (summary_with n (cost model found.outcome.best) (cost model found.first) (length (inactive model found.outcome.best)) (used found.outcome.best)) e
