use Rattle.std.proofs.Common.{◌≡◌, ◌∙◌, ap₂, subst}
use Rattle.std.specs.Prelude.{IfOk}
use Rattle.vr_model.specs.routes.Rules.{is_valid}
use Rattle.vr_rules.proofs.rules.Rules.valid.Goals as goal

pub returns-clause-answer : goal.returns-clause-answer
returns-clause-answer c = subst (λ y. IfOk c.is_valid.result (λ answer. answer ≡ y))
    (ap₂ is_valid (c.in_ok-of.ensures.model ∙ c.self.view_is) c.in_ok-of.ensures.lists) c.is_valid.ensures
