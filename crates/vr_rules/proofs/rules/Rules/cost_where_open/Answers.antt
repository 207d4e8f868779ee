use Rattle.std.proofs.Common.{◌≡◌, ◌∙◌, ap₂, subst, sym}
use Rattle.std.specs.Prelude.{IfOk, IsTrue}
use Rattle.vr_model.specs.routes.Costs.{assigned, parts_at}
use Rattle.vr_model.specs.routes.Routes.{are_lists}
use Rattle.vr_model.specs.routes.Rules.{is_open}
use Rattle.vr_rules.proofs.rules.Rules.cost_where_open.Goals as goal

pub with_marks-requires : goal.with_marks-requires
with_marks-requires c =
    let lists = c.args.routes.now.lists in
    subst (λ model. IsTrue (are_lists model lists)) (sym c.self.view_is) c.requires.built.are_lists

pub parts_of-requires : goal.parts_of-requires
parts_of-requires c = ap₂ is_open (c.in_ok-of.ensures.model ∙ c.self.view_is) c.in_ok-of.ensures.lists ∙ c.requires.built.are_open

pub returns-clause-parts : goal.returns-clause-parts
returns-clause-parts c =
    let same = ap₂ (λ model lists. parts_at model (assigned model lists)) (c.in_ok-of.ensures.model ∙ c.self.view_is) c.in_ok-of.ensures.lists in
    subst (λ y. IfOk c.parts_of.result (λ parts. parts ≡ y)) same c.parts_of.ensures.parts
