use Rattle.std.proofs.Common.{◌≡◌, ◌∙◌, ap₂, subst, sym}
use Rattle.std.specs.Prelude.{IfOk}
use Rattle.vr_model.specs.routes.Rules.{is_open}
use Rattle.vr_rules.specs.Placing.{AreBuilt}
use Rattle.vr_rules.proofs.rules.Rules.open_beside.Goals as goal

pub is_open-requires : goal.is_open-requires
is_open-requires c = subst (λ model. AreBuilt model c.args.others.now.lists) (sym (c.in_ok-of.ensures.model ∙ c.self.view_is)) c.requires.others

pub returns-clause-answer : goal.returns-clause-answer
returns-clause-answer c = subst (λ y. IfOk c.is_open.result (λ answer. answer ≡ y))
    (ap₂ is_open (c.in_ok-of.ensures.model ∙ c.self.view_is) c.in_ok-of.ensures.lists) c.is_open.ensures
