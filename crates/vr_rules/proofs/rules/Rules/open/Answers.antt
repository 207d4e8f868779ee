use Rattle.std.proofs.Common.{◌≡◌, subst}
use Rattle.std.specs.Prelude.{IfOk}
use Rattle.vr_rules.proofs.rules.Rules.open.Goals as goal

pub returns : goal.returns
returns c = subst (λ model. IfOk c.over.result (λ rules. rules ≡ model)) c.in_ok-lookups.ensures c.over.ensures
