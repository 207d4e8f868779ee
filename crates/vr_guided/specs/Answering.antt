-- What every answer of guided local search keeps to, as a statement.
use Rattle.std.specs.Prelude.{ℕ, ◌≤◌, List, IsTrue}
use Rattle.vr_model.specs.routes.Rules.{is_valid}
use Rattle.vr_model.specs.search.GuidedSearches.{guided}
use Rattle.vr_model.specs.declared.records.Model.{Model}
use Rattle.vr_model.specs.declared.search.Lambda.{Lambda}
use Rattle.vr_model.specs.declared.search.Limit.{Limit}
use Rattle.vr_descent.specs.Answering.{IsSoundAnswer}

-- guided local search from valid lists gives valid lists, of which the best cost no more, within the limit. So it is if
-- the limit allows a solution
abbrev pub GuidedIsSound : Type 0
GuidedIsSound =
    (model : Model) (lists : List (List ℕ)) (limit : Limit) (lambda : Lambda)
    → IsTrue (is_valid model lists) → 1 ≤ limit.solutions
    → IsSoundAnswer model lists limit (guided model lists limit lambda)
