use Rattle.std.proofs.Common.{◌≡◌, subst}
use Rattle.std.specs.Prelude.{IfOk}
use Rattle.vr_model.specs.routes.Rules.{is_open}
use Rattle.vr_rules.proofs.rules.open.Goals as goal

pub returns : goal.returns
returns c =
    subst (λ model. IfOk c.open_routes.result (λ answer. answer ≡ is_open model c.args.routes.now.lists)) c.in_ok-rules.ensures c.open_routes.ensures.answer
