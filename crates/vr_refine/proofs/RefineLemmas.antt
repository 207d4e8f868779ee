-- What ruin and recreate answers in code, beside what is found.
use Rattle.std.proofs.Common.{◌≡◌, ◌∙◌, ℕ, List, Bool, true, false, cond, Option, Some, None, refl, sym, ap, option_map}
use Rattle.std.specs.Prelude.{◌==◌}
use Rattle.vr_json.specs.Trees.{text_line}
use Rattle.vr_model.specs.routes.Costs.{cost}
use Rattle.vr_model.specs.declared.records.Model.{Model}
use Rattle.vr_print.specs.Solution.{solution_tree}
use Rattle.vr_app.specs.Found.{found_events, line_of_found}
use Rattle.vr_given.specs.declared.wishes.Wish.{Wish}
use Rattle.vr_ruin.specs.Answers.{answer_in, answer_of}
use Rattle.vr_ruin.specs.Lacking.{lack}
use Rattle.vr_ruin.specs.Refining.{RefineEnd, refined}
use Rattle.vr_ruin.specs.declared.answer.Refined.{Refined}
use Rattle.vr_refine.specs.Wishes.{found_at, refined_with, ruin_end}

-- the answer is that of a search which came to an end
pub record IsAnswerOf (model : Model) (o : Option RefineEnd) (answer : Refined) : Type 0 where
  pub rest : RefineEnd
  pub is : o ≡ Some rest
  pub best : answer.routes.lists ≡ rest.outcome.best
  pub first_cost : answer.first_cost ≡ cost model rest.first
  pub report : answer.report ≡ rest.outcome.report

pub of_answer : (model : Model) (o : Option RefineEnd) (given : Option Refined) (answer : Refined)
    → given ≡ Some answer → option_map answer_in given ≡ option_map (answer_of model) o → IsAnswerOf model o answer
of_answer model None given answer is e = let k : Some (answer_in answer) ≡ None = sym (ap (option_map answer_in) is) ∙ e in absurd cc
of_answer model (Some rest) given answer is e =
    let k : Some (answer_in answer) ≡ Some (answer_of model rest) = sym (ap (option_map answer_in) is) ∙ e in
    let same : answer_in answer ≡ answer_of model rest = cc in
    record { rest = rest; is = refl; best = ap (λ a. a.best) same; first_cost = ap (λ a. a.first_cost) same; report = ap (λ a. a.report) same }

-- its line is that of what is found
pub line_is : (model : Model) (o : Option RefineEnd) (answer : Refined) (line : List ℕ) → IsAnswerOf model o answer
    → line ≡ text_line (solution_tree model answer.routes.lists answer.first_cost answer.report)
    → Some line ≡ option_map (line_of_found model) (option_map found_at o)
unfolding line_of_found
line_is model o answer line is e =
    ap Some (e ∙ (λ i. text_line (solution_tree model (is.best i) (is.first_cost i) (is.report i))))
    ∙ sym (ap (λ o. option_map (line_of_found model) (option_map found_at o)) is.is)

-- if there is a line, the events of what is found are those of the search
pub events_are : (model : Model) (wish : Wish) (lists : List (List ℕ)) (line : List ℕ)
    → Some line ≡ option_map (line_of_found model) (refined_with model wish (Some lists))
    → found_events (refined_with model wish (Some lists)) ≡ (ruin_end model wish lists).outcome.events
unfolding refined
events_are model wish lists line e = by (lack model (ruin_end model wish lists).outcome.best == 0) e
  where
    by : (b : Bool) → Some line ≡ option_map (line_of_found model) (option_map found_at (cond b (Some (ruin_end model wish lists)) None))
        → found_events (option_map found_at (cond b (Some (ruin_end model wish lists)) None)) ≡ (ruin_end model wish lists).outcome.events
    by true same = refl
    by false same = absurd cc
