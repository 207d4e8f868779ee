use Rattle.std.proofs.Common.{◌≡◌, ◌∙◌, subst, sym}
use Rattle.std.specs.Prelude.{IfOk}
use Rattle.vr_rules.proofs.MarkedLemmas.{closed_by_groups, open_by_routes}
use Rattle.vr_rules.proofs.validity.is_open.Goals as goal

pub returns-then-not-groups_pass : goal.returns-then-not-groups_pass
returns-then-not-groups_pass c = sym (closed_by_groups c.args.of.now (sym c.groups_pass.ensures ∙ c.if-not-groups_pass.true))

pub returns : goal.returns
returns c = subst (λ y. IfOk c.are_routes_open.result (λ answer. answer ≡ y))
    (open_by_routes c.args.of.now (sym c.groups_pass.ensures ∙ c.if-not-groups_pass.false)) c.are_routes_open.ensures
