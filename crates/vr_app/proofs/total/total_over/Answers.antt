use Rattle.std.proofs.Common.{◌≡◌, subst}
use Rattle.std.specs.Prelude.{IfOk}
use Rattle.vr_model.specs.routes.Costs.{cost}
use Rattle.vr_app.proofs.total.total_over.Goals as goal

pub returns : goal.returns
returns c = subst (λ model. IfOk c.total.result (λ total. total ≡ cost model c.args.routes.now.lists)) c.in_ok-rules.ensures c.total.ensures.value
