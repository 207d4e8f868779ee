-- What every answer of the search keeps to, as a statement.
use Rattle.std.specs.Prelude.{◌≡◌, ℕ, ◌≤◌, List, IsTrue}
use Rattle.vr_model.specs.routes.Rules.{is_valid}
use Rattle.vr_model.specs.search.Outcomes.{Outcome}
use Rattle.vr_model.specs.declared.records.Model.{Model}
use Rattle.vr_model.specs.declared.search.Limit.{Limit}
use Rattle.vr_descent.specs.Answering.{IsSoundAnswer}
use Rattle.vr_lns.specs.PathLns.{path_lns}

-- an answer is sound, and its last lists are the best ones
pub record IsSoundAtLast (model : Model) (first : List (List ℕ)) (limit : Limit) (answer : Outcome) : Type 0 where
  pub sound : IsSoundAnswer model first limit answer
  pub last_is_best : answer.last ≡ answer.best

-- the search from valid lists answers so, however many visits a chain has at most, if the limit allows a solution
abbrev pub PathLnsIsSound : Type 0
PathLnsIsSound =
    (model : Model) (lists : List (List ℕ)) (limit : Limit) (most : ℕ) → IsTrue (is_valid model lists)
    → 1 ≤ limit.solutions → IsSoundAtLast model lists limit (path_lns model lists limit most)
