use Rattle.std.proofs.Common.{◌≡◌, subst}
use Rattle.std.specs.Prelude.{IfOk}
use Rattle.vr_model.specs.routes.Rules.{is_route_open}
use Rattle.vr_rules.proofs.rules.route_open.Goals as goal

pub returns : goal.returns
returns c = subst (λ model. IfOk c.route_open.result (λ answer. answer ≡ is_route_open model c.args.v c.args.list.now))
    c.in_ok-rules.ensures c.route_open.ensures.answer
