-- How often a judge is asked.
use Rattle.std.specs.Prelude.{◌≡◌, ℕ, ◌+◌, ◌*◌, ◌≤◌}
use Rattle.vr_model.specs.declared.records.Model.{Model}
use Rattle.vr_routes.specs.Tours.{Tours}

-- a judge was asked about no more moves than there were tries. It was asked at most twice as often what a move, or a
-- run of moves, makes at least
pub record AsksFor {J : Type 0} (judged seen : J → ℕ) (old new : J) (tries : ℕ) : Type 0 where
  pub asked : judged new ≤ judged old + tries
  pub looked : seen new ≤ seen old + 2 * tries

-- the same of a search on its way from one number of tries to another
pub record AsksOn {J : Type 0} (judged seen : J → ℕ) (old new : J) (before after : ℕ) : Type 0 where
  pub asked : judged new + before ≤ judged old + after
  pub looked : seen new + 2 * before ≤ seen old + 2 * after

-- a judge has its model still, and has committed the lists of the routes still
pub record Keeps {J : Type 0} (model_of : J → Model) (stands_at : J → Tours → Type 0) (routes : Tours) (old new : J) :
    Type 0 where
  pub model : model_of new ≡ model_of old
  pub committed : stands_at new routes
