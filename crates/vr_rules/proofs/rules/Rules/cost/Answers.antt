use Rattle.std.proofs.Common.{◌≡◌, ◌∙◌, ap₂, subst, sym}
use Rattle.std.specs.Prelude.{IfOk, IsTrue}
use Rattle.std.proofs.lemmas.Result.{IfOk-weaker}
use Rattle.vr_model.specs.routes.Costs.{assigned, parts_at}
use Rattle.vr_model.specs.routes.Routes.{are_lists}
use Rattle.vr_model.specs.routes.Rules.{is_open, is_valid}
use Rattle.vr_model.proofs.routes.Lists.{are-lists}
use Rattle.vr_rules.specs.Totals.{HasTotal}
use Rattle.vr_rules.proofs.PenaltyLemmas.{valid-open}
use Rattle.vr_rules.proofs.TotalLemmas.{valid-total}
use Rattle.vr_rules.proofs.rules.Rules.cost.Goals as goal

pub with_marks-requires : goal.with_marks-requires
with_marks-requires c =
    let lists = c.args.routes.now.lists in
    subst (λ model. IsTrue (are_lists model lists)) (sym c.self.view_is) (are-lists c.args.self.now lists c.requires.valid)

pub parts_of-requires : goal.parts_of-requires
parts_of-requires c = ap₂ is_open (c.in_ok-of.ensures.model ∙ c.self.view_is) c.in_ok-of.ensures.lists
    ∙ valid-open c.args.self.now c.args.routes.now.lists c.requires.valid

pub returns-clause-parts : goal.returns-clause-parts
returns-clause-parts c =
    let same = ap₂ (λ model lists. parts_at model (assigned model lists)) (c.in_ok-of.ensures.model ∙ c.self.view_is) c.in_ok-of.ensures.lists in
    subst (λ y. IfOk c.parts_of.result (λ parts. parts ≡ y)) same c.parts_of.ensures.parts

pub returns-clause-total : goal.returns-clause-total
returns-clause-total c =
    let model = c.in_ok-of.of.lookups.now.closed.model.now in
    let lists = c.in_ok-of.of.routes.now.lists in
    let valid = ap₂ is_valid (c.in_ok-of.ensures.model ∙ c.self.view_is) c.in_ok-of.ensures.lists ∙ c.requires.valid in
    IfOk-weaker c.parts_of.result _ _
    (λ parts is. subst HasTotal (sym is) (valid-total model c.in_ok-of.of.lookups.now.closed.well_formed lists valid)) c.parts_of.ensures.parts
