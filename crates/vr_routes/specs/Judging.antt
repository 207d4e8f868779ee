-- What a judge has to answer, and which routes it has committed.
use Rattle.std.specs.Prelude.{◌≡◌, cond, List, ℕ, IsTrue, ℤ, ◌-ℤ◌, ◌≤ℤ◌}
use Rattle.vr_model.specs.tables.Tables.{visits}
use Rattle.vr_model.specs.moves.Moves.{apply}
use Rattle.vr_model.specs.moves.MoveTests.{is_move}
use Rattle.vr_model.specs.routes.Rules.{is_valid}
use Rattle.vr_model.specs.routes.Costs.{cost}
use Rattle.vr_model.specs.declared.records.Model.{Model}
use Rattle.vr_model.specs.declared.neighbours.Move.{Move}
use Rattle.vr_routes.specs.Tours.{Tours}
use Rattle.vr_routes.specs.declared.judging.Verdict.{Verdict}
use Rattle.vr_routes.specs.declared.judging.Verdict.TheVariants.{Refused, Difference}

-- a judge has committed the lists of routes, and they are valid lists of its model
pub record HasCommitted (model : Model) (stands_at : Tours → Type 0) (routes : Tours) : Type 0 where
  pub committed : stands_at routes
  pub of_model : routes.visits ≡ visits model
  pub valid : IsTrue (is_valid model routes.lists)

-- what a move makes of the cost of lists
abbrev pub cost_change : Model → List (List ℕ) → Move → ℤ
cost_change model lists mv = cost model (apply model lists mv) -ℤ cost model lists

-- a number that the difference of a move is never below, if the lists after it are valid
abbrev pub IsDifferenceBound : Model → List (List ℕ) → Move → ℤ → Type 0
IsDifferenceBound model lists mv least = IsTrue (is_valid model (apply model lists mv))
    → least ≤ℤ cost_change model lists mv

-- if a move is one of the lists, and the lists after it are valid, it makes a difference of no less than a bound
abbrev pub IsNoLess : Model → List (List ℕ) → Move → ℤ → Type 0
IsNoLess model lists mv bound = IsTrue (is_move model lists mv) → IsDifferenceBound model lists mv bound

-- a move is refused if the lists after it are not valid; else it makes this difference in cost
abbrev pub verdict_of : Model → List (List ℕ) → Move → Verdict
verdict_of model lists mv =
    cond (is_valid model (apply model lists mv)) (Difference (cost_change model lists mv)) Refused

-- the routes after a move
abbrev pub moved : Model → Tours → Move → Tours
moved model routes mv = record { visits = routes.visits; lists = apply model routes.lists mv }
