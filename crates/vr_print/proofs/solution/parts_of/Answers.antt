use Rattle.std.proofs.Common.{◌≡◌, subst}
use Rattle.std.specs.Prelude.{IfOk}
use Rattle.vr_model.specs.routes.Costs.{assigned, parts_at}
use Rattle.vr_print.proofs.solution.parts_of.Goals as goal

pub returns-clause-parts : goal.returns-clause-parts
returns-clause-parts c =
    subst (λ model. IfOk c.cost.result (λ parts. parts ≡ parts_at model (assigned model c.args.routes.now.lists))) c.in_ok-rules.ensures c.cost.ensures.parts
