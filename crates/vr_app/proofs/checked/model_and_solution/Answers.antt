use Rattle.std.proofs.Common.{refl}
use Rattle.serde_json.specs.View.{view}
use Rattle.vr_json.proofs.Steps.{gives, stops, then}
use Rattle.vr_app.specs.Checked.{checked_at, checked_together}
use Rattle.vr_app.proofs.MetLemmas.{seen_fails}
use Rattle.vr_app.proofs.checked.model_and_solution.Goals as goal

pub returns-in_err-model-clause-read : goal.returns-in_err-model-clause-read
unfolding checked_at
returns-in_err-model-clause-read c =
    stops _ _ c.in_err-model.ensures.model (seen_fails _ (λ both. checked_together both.0 (view both.1.now)) c.from_residual.result c.from_residual.ensures.1)

pub returns-in_err-solution-clause-read : goal.returns-in_err-solution-clause-read
unfolding checked_at
returns-in_err-solution-clause-read c = then _ c.in_ok-model.ensures.model
    (stops _ _ c.in_err-solution.ensures
    (seen_fails _ (λ both. checked_together both.0 (view both.1.now)) c.from_residual-in_err-solution.result c.from_residual-in_err-solution.ensures.1))

pub returns-in_err-known-clause-read : goal.returns-in_err-known-clause-read
unfolding checked_at
returns-in_err-known-clause-read c = then _ c.in_ok-model.ensures.model
    (then _ c.in_ok-solution.ensures
    (stops _ _ c.in_err-known.ensures
    (seen_fails _ (λ both. checked_together both.0 (view both.1.now)) c.from_residual-in_err-known.result c.from_residual-in_err-known.ensures.1)))

pub returns-clause-read : goal.returns-clause-read
unfolding checked_at
returns-clause-read c = then _ c.in_ok-model.ensures.model (then _ c.in_ok-solution.ensures (then _ c.in_ok-known.ensures (gives refl)))
