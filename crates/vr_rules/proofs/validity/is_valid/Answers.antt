use Rattle.std.proofs.Common.{◌≡◌, ◌∙◌, subst, sym}
use Rattle.std.specs.Prelude.{IfOk}
use Rattle.vr_rules.proofs.MarkedLemmas.{invalid_where_incomplete, valid_where_complete}
use Rattle.vr_rules.proofs.validity.is_valid.Goals as goal

pub returns-then-not-is_complete : goal.returns-then-not-is_complete
returns-then-not-is_complete c = sym (invalid_where_incomplete c.args.of.now (sym c.is_complete.ensures ∙ c.if-not-is_complete.true))

pub returns : goal.returns
returns c = subst (λ y. IfOk c.is_open.result (λ answer. answer ≡ y))
    (valid_where_complete c.args.of.now (sym c.is_complete.ensures ∙ c.if-not-is_complete.false)) c.is_open.ensures
