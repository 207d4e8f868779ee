-- Searches in code that have ended, beside how definitions improve a first solution.
use Rattle.std.proofs.Common.{◌≡◌, ℕ, List, sym, subst}
use Rattle.vr_model.specs.search.Outcomes.{Outcome}
use Rattle.vr_model.specs.declared.records.Improve.{Improve}
use Rattle.vr_model.specs.declared.records.Model.{Model}
use Rattle.vr_model.specs.declared.records.Report.{Report}
use Rattle.vr_model.specs.declared.search.Event.{Event}
use Rattle.vr_model.specs.declared.search.Limit.{Limit}
use Rattle.vr_descent.specs.Ending.{HasEnded}
use Rattle.vr_routes.specs.Tours.{Tours}
use Rattle.vr_app.specs.Endings.{IsImproved}
use Rattle.vr_app.specs.Improved.{improved}
use Rattle.vr_app.specs.declared.best.Best.{Best}

module _ {W : Type 0} {after : W → List Event → List ℕ} {old new : List W} where
  -- what a search has ended with that was handed the limit of a model
  pub is_improved : {model : Model} {limit given wanted : Limit} {from to chosen : Tours} {report : Report} (ends : Limit → Outcome)
      → given ≡ wanted → HasEnded after model limit (ends given) from to old new report chosen
      → IsImproved after from.visits (ends wanted) old new (record { routes = chosen; report = report })
  is_improved {model} {limit} {from} {to} {chosen} {report} ends is ended =
      let whole = subst (λ l. HasEnded after model limit (ends l) from to old new report chosen) is ended in
      record { ends = record { best_is = whole.best; report_is = whole.report; visits_are = whole.same_visits }; told = whole.told }

  -- the same, where it was handed one thing more of the model
  pub is_improved_by : {A : Type 0} {model : Model} {limit given wanted : Limit}
      {handed asked : A} {from to chosen : Tours} {report : Report} (ends : Limit → A → Outcome)
      → given ≡ wanted → handed ≡ asked → HasEnded after model limit (ends given handed) from to old new report chosen
      → IsImproved after from.visits (ends wanted asked) old new (record { routes = chosen; report = report })
  is_improved_by {model} {limit} {given} {asked} {from} {to} {chosen} {report} ends is more_is ended =
      is_improved (λ l. ends l asked) is (subst (λ more. HasEnded after model limit (ends given more) from to old new report chosen) more_is ended)

  -- the improvement of a kind is that which a model asks for that names the kind
  pub as_named : (model : Model) (lists : List (List ℕ)) {named kind : Improve} {visits : List ℕ} {best : Best} → named ≡ kind
      → IsImproved after visits (improved kind model lists) old new best → IsImproved after visits (improved named model lists) old new best
  as_named model lists {visits} {best} is found = subst (λ kind. IsImproved after visits (improved kind model lists) old new best) (sym is) found
