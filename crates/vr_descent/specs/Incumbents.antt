-- The best lists so far.
use Rattle.std.specs.Prelude.{◌≡◌, ℕ, ◌≤◌, cond, List, IsTrue, ℤ, int_lt}
use Rattle.vr_model.specs.routes.Costs.{cost}
use Rattle.vr_model.specs.routes.Rules.{is_valid}
use Rattle.vr_model.specs.declared.records.Model.{Model}
use Rattle.vr_model.specs.declared.search.Limit.{Limit}
use Rattle.vr_routes.specs.Judging.{HasCommitted}
use Rattle.vr_routes.specs.Tours.{Tours}
use Rattle.vr_descent.specs.declared.incumbent.Incumbent.{Incumbent}
use Rattle.vr_descent.specs.declared.progress.Progress.{Progress}

-- the cheaper of two, the first of equally cheap ones
abbrev pub kept : Incumbent → Tours → ℤ → Incumbent
kept best routes cost = cond (int_lt cost best.cost) (record { routes = routes; cost = cost }) best

-- the best routes are of these visits and valid, and their cost is known
pub record IsBest (model : Model) (visits : List ℕ) (best : Incumbent) : Type 0 where
  pub costs : best.cost ≡ cost model best.routes.lists
  pub valid : IsTrue (is_valid model best.routes.lists)
  pub same_visits : best.routes.visits ≡ visits

-- a search within a limit is under way: a judge has committed the lists of the routes, which are valid. Their cost is
-- known, the tries and the solutions are counted, and the best routes are valid
pub record IsUnderWay (model : Model) (limit : Limit) (committed : Tours → Type 0) (routes : Tours) (at : Progress)
    (incumbent : Incumbent) : Type 0 where
  pub holds : HasCommitted model committed routes
  pub costs : at.cost ≡ cost model routes.lists
  pub used : at.used ≤ limit.tries
  pub some : 1 ≤ at.found
  pub found : at.found ≤ limit.solutions
  pub best : IsBest model routes.visits incumbent
