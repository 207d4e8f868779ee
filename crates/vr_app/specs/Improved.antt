-- How a first solution is improved.
use Rattle.std.specs.Prelude.{ℕ, List}
use Rattle.vr_model.specs.search.Descents.{descent}
use Rattle.vr_model.specs.search.GuidedSearches.{guided}
use Rattle.vr_model.specs.search.Outcomes.{Outcome, begun, ended}
use Rattle.vr_model.specs.declared.records.End.TheVariants as stop
use Rattle.vr_model.specs.declared.records.Improve.{Improve}
use Rattle.vr_model.specs.declared.records.Improve.TheVariants as improve
use Rattle.vr_model.specs.declared.records.Model.{Model}
use Rattle.vr_model.specs.declared.search.Lambda.{Lambda}
use Rattle.vr_model.specs.declared.search.Limit.{Limit}
use Rattle.vr_lns.specs.PathLns.{path_lns}
use Rattle.vr_tabu.specs.TabuSearches.{tabu_search}

-- if no move is tried, the search ends at the first solution
abbrev pub untried : List (List ℕ) → Outcome
untried lists = ended (begun lists) stop.First

-- how many tries and solutions a model allows
abbrev pub limit_of : Model → Limit
limit_of model = record { tries = model.search.tries; solutions = model.search.solutions }

-- how much penalised arcs weigh in guided local search
abbrev pub lambda_of : Model → Lambda
lambda_of model = record { p = model.search.p; q = model.search.q }

-- how a first solution is improved
abbrev pub improved : Improve → Model → List (List ℕ) → Outcome
improved improve.None model lists = untried lists
improved improve.GreedyDescent model lists = descent model lists (limit_of model)
improved improve.GuidedLocalSearch model lists = guided model lists (limit_of model) (lambda_of model)
improved improve.PathLns model lists = path_lns model lists (limit_of model) model.search.cut
improved improve.TabuSearch model lists = tabu_search model lists (limit_of model) model.search.tenure
