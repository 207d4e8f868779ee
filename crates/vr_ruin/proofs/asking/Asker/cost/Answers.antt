use Rattle.std.proofs.Common.{◌≡◌, ◌∙◌, subst}
use Rattle.std.specs.Prelude.{IfOk}
use Rattle.vr_model.specs.routes.Costs.{assigned, parts_at}
use Rattle.vr_ruin.proofs.asking.Asker.cost.Goals as goal

pub returns-clause-parts : goal.returns-clause-parts
returns-clause-parts c = subst (λ model. IfOk c.cost_where_open.result (λ parts. parts ≡ parts_at model (assigned model c.args.routes.now.lists)))
    (c.self.invariant.rules_are ∙ c.self.view_is) c.cost_where_open.ensures.parts
