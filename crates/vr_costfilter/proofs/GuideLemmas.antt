-- What is so of what a guide is of is so of the guide, and the other way round.
use Rattle.std.proofs.Common.{◌≡◌, ℕ, sym, subst}
use Rattle.vr_model.specs.declared.records.Model.{Model}
use Rattle.vr_costfilter.specs.GuideRuns.{runs_of}
use Rattle.vr_costfilter.specs.Runs.{Runs}
use Rattle.vr_costfilter.specs.declared.guides.Guide.{Guide}

module _ (guide : Guide) {model : Model} {d v : ℕ} {runs : Runs} (same_model : guide.model.now ≡ model)
    (same_dimension : guide.d ≡ d) (same_vehicle : guide.v ≡ v) (same_runs : runs_of guide ≡ runs) where
  pub of-guide : (P : Model → ℕ → ℕ → Runs → Type 0) → P model d v runs → P guide.model.now guide.d guide.v (runs_of guide)
  of-guide P is =
      subst (λ m. P m guide.d guide.v (runs_of guide)) (sym same_model)
      (subst (λ e. P model e guide.v (runs_of guide)) (sym same_dimension)
      (subst (λ w. P model d w (runs_of guide)) (sym same_vehicle) (subst (P model d v) (sym same_runs) is)))

  pub by-guide : (P : Model → ℕ → ℕ → Runs → Type 0) → P guide.model.now guide.d guide.v (runs_of guide) → P model d v runs
  by-guide P is =
      subst (P model d v) same_runs
      (subst (λ w. P model d w (runs_of guide)) same_vehicle
      (subst (λ e. P model e guide.v (runs_of guide)) same_dimension (subst (λ m. P m guide.d guide.v (runs_of guide)) same_model is)))
