use Rattle.std.proofs.Common.{◌∙◌, refl, ap, sym, subst}
use Rattle.vr_costfilter.specs.PlanCosts.{AreNextCosts, KeptPlans}
use Rattle.vr_costfilter.proofs.PlanLemmas.{plans-like}
use Rattle.vr_costfilter.proofs.plan_cost.PlanCost.make_ready.Goals as goal

pub returns-clause-ready : goal.returns-clause-ready
returns-clause-ready c = record {
  prepared = refl;
  costed = subst (λ (s : KeptPlans). AreNextCosts s c.args.routes.now c.args.change.now) (sym c.self.view_is) c.in_ok-write_next.ensures.next;
}

pub returns-clause-stands : goal.returns-clause-stands
returns-clause-stands c =
    let like = c.write_next.ensures.like in
    plans-like c.args.self.now _ c.args.routes.now c.requires.change.stands
    (record {
      model = ap (λ s. s.model) c.self.view_is ∙ like.model;
      costs = ap (λ s. s.costs) c.self.view_is ∙ like.costs;
      cumuls = ap (λ s. s.cumuls) c.self.view_is ∙ like.cumuls;
    })

pub returns-in_err-write_next-clause-stands : goal.returns-in_err-write_next-clause-stands
returns-in_err-write_next-clause-stands c =
    plans-like c.args.self.now c.write_next.new.self c.args.routes.now c.requires.change.stands c.write_next.ensures.like
