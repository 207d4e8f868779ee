use Rattle.std.proofs.Common.{◌∙◌, ap, sym, subst}
use Rattle.vr_model.specs.declared.records.Model.{Model}
use Rattle.vr_routes.specs.Pieces.{joined, part_at}
use Rattle.vr_costfilter.specs.PlanCosts.{plans_cost}
use Rattle.vr_costfilter.proofs.PlanLemmas.{idle-where}
use Rattle.vr_costfilter.specs.PlanCosts.{KeptPlans}
use Rattle.vr_costfilter.specs.Known.{AreCumulsAt, IsValidChange}
use Rattle.vr_costfilter.proofs.KnownLemmas.{plans-cumuls}
use Rattle.vr_costfilter.proofs.plan_cost.PlanCost.cost_after.Goals as goal

pub returns-then-is_idle-clause-value : goal.returns-then-is_idle-clause-value
returns-then-is_idle-clause-value c =
    let part = part_at c.args.change.now c.args.k in
    let idle = idle-where c.self.inside.rules (sym c.is_idle.ensures ∙ c.if-is_idle.true) in
    sym (idle.plans part.vehicle (joined c.args.routes.now.lists part.pieces))
    ∙ ap (λ (m : Model). plans_cost m part.vehicle (joined c.args.routes.now.lists part.pieces)) (ap (λ s. s.model) c.self.view_is)

pub cost_after-requires-clause-change : goal.cost_after-requires-clause-change
cost_after-requires-clause-change c = subst (λ (s : KeptPlans). IsValidChange (AreCumulsAt s.model s.cumuls) s.model c.args.routes.now c.args.change.now)
    (sym c.self.view_is) (plans-cumuls c.args.self.now c.args.routes.now c.args.change.now c.requires.change)
