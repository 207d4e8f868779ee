-- What a search is asked, and what it answers.
use Rattle.std.specs.Prelude.{ℕ, ◌≤◌, ◌^◌, cond, ◌==◌, List, [], ◌∷◌, Option, Some, None, IfSome, ℤ}
use Rattle.vr_model.specs.declared.records.End.{End}
use Rattle.vr_model.specs.declared.records.Model.{Model}
use Rattle.vr_model.specs.declared.records.Report.{Report}
use Rattle.vr_model.specs.declared.search.Event.{Event}
use Rattle.vr_model.specs.declared.search.Kind.TheVariants as kind
use Rattle.vr_model.specs.declared.search.Limit.{Limit}
use Rattle.vr_model.specs.routes.Costs.{cost}
use Rattle.vr_ruin.specs.Refining.{RefineEnd}
use Rattle.vr_ruin.specs.declared.answer.Refined.{Refined}
use Rattle.vr_ruin.specs.declared.judging.Standing.{Standing}
use Rattle.vr_ruin.specs.declared.judging.Worth.{Worth}
use Rattle.vr_ruin.specs.declared.wish.Wish.{Wish}

-- a search may be asked this
pub record IsWish (wish : Wish) : Type 0 where
  pub removed : wish.removed ≤ 100
  pub heat : IfSome wish.heat (λ heat. heat ≤ 2 ^ 40)

-- a search may be limited so
pub record IsRefineLimit (limit : Limit) : Type 0 where
  pub tries : limit.tries ≤ 1000000000
  pub one_solution : 1 ≤ limit.solutions
  pub solutions : limit.solutions ≤ 1000000000

-- the best lists, the cost of the first ones and the report
pub record RefineAnswer : Type 0 where
  pub best : List (List ℕ)
  pub first_cost : ℤ
  pub report : Report

-- at the end of the definition
abbrev pub answer_of : Model → RefineEnd → RefineAnswer
answer_of model rest =
    record { best = rest.outcome.best; first_cost = cost model rest.first; report = rest.outcome.report }

-- in code
abbrev pub answer_in : Refined → RefineAnswer
answer_in refined =
    record { best = refined.routes.lists; first_cost = refined.first_cost; report = refined.report }

-- as it is kept when a search has come to its end: none if the best lists lack something
abbrev pub answer_at : List (List ℕ) → Standing → End → Option RefineAnswer
answer_at best at stop = cond (at.best.lack == 0) (Some (record {
  best = best;
  first_cost = at.first.cost;
  report = record { tries = at.used; solutions = at.found; «end» = stop };
})) None

-- the event of the first lists, and the events: it, if they lack nothing
abbrev pub first_event : Worth → Event
first_event first = record { tries = 0; kind = kind.First; cost = first.cost }

abbrev pub events_of_first : Worth → List Event
events_of_first first = cond (first.lack == 0) (first_event first ∷ []) []
