use Rattle.std.proofs.Common.{◌≡◌, subst}
use Rattle.std.specs.Prelude.{IfOk}
use Rattle.vr_model.specs.routes.Rules.{is_valid}
use Rattle.vr_first_savings.proofs.solution.are_valid.Goals as goal

pub returns : goal.returns
returns c = subst (λ model. IfOk c.valid.result (λ answer. answer ≡ is_valid model c.args.routes.now.lists)) c.in_ok-rules.ensures c.valid.ensures.answer
