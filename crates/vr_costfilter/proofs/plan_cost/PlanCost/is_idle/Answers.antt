use Rattle.std.proofs.Common.{◌∙◌, ap, sym, arith}
use Rattle.std.proofs.lemmas.Int.{ints}
use Rattle.vr_costfilter.specs.PlanCosts.{pays_no_plan}
use Rattle.vr_costfilter.proofs.PlanLemmas.{idle-sum, idle-where, plans-over}
use Rattle.vr_costfilter.proofs.plan_cost.PlanCost.is_idle.Goals as goal

pub returns-clause-idle : goal.returns-clause-idle
returns-clause-idle c = c.is_idle.ensures ∙ ap (λ s. pays_no_plan s.model) c.self.view_is

pub returns-clause-alike : goal.returns-clause-alike
returns-clause-alike c idle lists later valid valid_later =
    let model = c.args.self.now.model in
    let h = idle-where model (sym (returns-clause-idle c) ∙ idle) in
    let x = plans-over model lists in
    let y = plans-over model later in
    let u = idle-sum model h lists in
    let w = idle-sum model h later in
    omega (arith, ints, x, y, u, w)
