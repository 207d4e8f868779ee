-- What every answer of a search keeps to, as statements.
use Rattle.std.specs.Prelude.{ℕ, ◌≤◌, List, IsTrue, ◌≤ℤ◌}
use Rattle.vr_model.specs.routes.Rules.{is_valid}
use Rattle.vr_model.specs.routes.Costs.{cost}
use Rattle.vr_model.specs.search.Descents.{descent}
use Rattle.vr_model.specs.search.Outcomes.{Outcome}
use Rattle.vr_model.specs.declared.records.Model.{Model}
use Rattle.vr_model.specs.declared.search.Limit.{Limit}

-- the best lists of a search and its last ones are valid, and the best cost no more than the first. The tries and the
-- solutions of its report are within the limit, and there is at least one solution
pub record IsSoundAnswer (model : Model) (first : List (List ℕ)) (limit : Limit) (answer : Outcome) : Type 0 where
  pub best_valid : IsTrue (is_valid model answer.best)
  pub last_valid : IsTrue (is_valid model answer.last)
  pub no_dearer : cost model answer.best ≤ℤ cost model first
  pub tries : answer.report.tries ≤ limit.tries
  pub some_solution : 1 ≤ answer.report.solutions
  pub solutions : answer.report.solutions ≤ limit.solutions

-- greedy descent from valid lists answers so, if the limit allows a solution
abbrev pub DescentIsSound : Type 0
DescentIsSound =
    (model : Model) (lists : List (List ℕ)) (limit : Limit) → IsTrue (is_valid model lists) → 1 ≤ limit.solutions
    → IsSoundAnswer model lists limit (descent model lists limit)
