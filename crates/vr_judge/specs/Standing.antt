-- What a judge, its filter and its costs are in sync with.
use Rattle.std.specs.Prelude.{◌≡◌, ℕ, Bool, List}
use Rattle.vr_model.specs.tables.Tables.{visits}
use Rattle.vr_model.specs.declared.records.Model.{Model}
use Rattle.vr_routes.specs.Tours.{Tours}
use Rattle.vr_judge.specs.Rules.{keeps_rules, total_weight}
use Rattle.vr_judge.specs.Costs.{KeptCosts, StandsCosts}

-- the filters ask what valid lists of the model keep, within its weights. They and the parts of the cost are in sync
-- with the routes.
pub record IsJudging (model : Model) (routes : Tours) (holds : List (List ℕ) → Bool)
    (weight : List (List ℕ) → List (List ℕ) → ℕ) (stands_at : Tours → Type 0) (costs : KeptCosts) : Type 0 where
  pub of_model : routes.visits ≡ visits model
  pub rules : (lists : List (List ℕ)) → holds lists ≡ keeps_rules model lists
  pub weights : (before later : List (List ℕ)) → weight before later ≡ total_weight model before later
  pub filters : stands_at routes
  pub costs_model : costs.model ≡ model
  pub costs_stand : StandsCosts costs routes
