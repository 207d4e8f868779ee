-- What every answer of tabu search keeps to, as a statement.
use Rattle.std.specs.Prelude.{ℕ, ◌≤◌, List, IsTrue}
use Rattle.vr_model.specs.routes.Rules.{is_valid}
use Rattle.vr_model.specs.declared.records.Model.{Model}
use Rattle.vr_model.specs.declared.search.Limit.{Limit}
use Rattle.vr_descent.specs.Answering.{IsSoundAnswer}
use Rattle.vr_tabu.specs.TabuSearches.{tabu_search}

-- tabu search from valid lists gives valid lists, of which the best cost no more. It stays within the limit, if that
-- allows a solution.
abbrev pub TabuIsSound : Type 0
TabuIsSound =
    (model : Model) (lists : List (List ℕ)) (limit : Limit) (tenure : ℕ)
    → IsTrue (is_valid model lists) → 1 ≤ limit.solutions
    → IsSoundAnswer model lists limit (tabu_search model lists limit tenure)
