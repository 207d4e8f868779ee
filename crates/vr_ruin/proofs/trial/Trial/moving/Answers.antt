use Rattle.std.proofs.Common.{◌∙◌, ap}
use Rattle.std.specs.Prelude.{nat_abs, ◌-ℤ◌}
use Rattle.vr_model.specs.declared.records.Parts.{Parts}
use Rattle.vr_model.specs.routes.Costs.{cost, sum_of}
use Rattle.vr_ruin.specs.Lacking.{moving_cost}
use Rattle.vr_ruin.specs.Trials.{OnTrial}
use Rattle.vr_ruin.proofs.trial.Trial.moving.Goals as goal

pub returns-clause-value : goal.returns-clause-value
unfolding cost
returns-clause-value c = c.moving_of.ensures ∙ ap (λ (p : Parts). nat_abs ((sum_of p -ℤ p.fixed) -ℤ p.penalty)) c.in_ok-parts.ensures.parts
    ∙ ap (λ (t : OnTrial). moving_cost t.model t.lists) c.self.view_is
