use Rattle.std.proofs.Common.{◌∙◌, ap₂, subst, sym}
use Rattle.vr_model.specs.routes.Rules.{is_valid}
use Rattle.vr_rules.specs.Placing.{AreBuilt}
use Rattle.vr_rules.proofs.rules.Rules.valid_where_open.Goals as goal

pub is_valid_where_open-requires : goal.is_valid_where_open-requires
is_valid_where_open-requires c =
    let model = c.in_ok-of.ensures.model ∙ c.self.view_is in
    subst (λ T. T) (λ i. AreBuilt (sym model i) (sym c.in_ok-of.ensures.lists i)) c.requires.built

pub returns-clause-answer : goal.returns-clause-answer
returns-clause-answer c = c.is_valid_where_open.ensures ∙ ap₂ is_valid (c.in_ok-of.ensures.model ∙ c.self.view_is) c.in_ok-of.ensures.lists
