use Rattle.std.proofs.Common.{◌∙◌, ◌*◌, [], ℕ, List, ap, sym, subst, arith}
use Rattle.vr_model.specs.declared.records.Model.{Model}
use Rattle.vr_plan.specs.Bounds.{cumul_cost}
use Rattle.vr_plan.proofs.BoundLemmas.{read-around}
use Rattle.vr_costfilter.specs.EarlyParts.{AreEarlyInRange, AreEarlyParts}
use Rattle.vr_costfilter.specs.GlobalCosts.{AreAllOrders, AreRanged}
use Rattle.vr_costfilter.specs.Spreads.{global_least}
use Rattle.vr_costfilter.proofs.reaches.SpanRules.least.Goals as goal

pub invariant_of-early : goal.invariant_of-early
invariant_of-early c = record { sound = subst (λ (m : Model). AreEarlyInRange m c.args.change.now c.args.earlies.now) (sym c.self.view_is) c.requires.earlies }

pub least_of_global_spans-requires : goal.least_of_global_spans-requires
least_of_global_spans-requires c = subst (λ (m : Model). AreRanged m c.args.orders.now []) (sym c.self.view_is) c.requires.orders

pub returns-clause-value : goal.returns-clause-value
returns-clause-value c lists are orders =
    let told = subst (λ (m : Model). AreEarlyParts m lists c.args.change.now c.args.earlies.now) (sym c.self.view_is) are in
    let seen = subst (λ (m : Model). AreAllOrders m lists c.args.orders.now) (sym c.self.view_is) orders in
    read-around c.least_of_global_spans.result (cumul_cost * 4) c.least_of_global_spans.ensures.range (omega arith)
    ∙ c.least_of_global_spans.ensures.value lists told seen
    ∙ ap (λ (m : Model). global_least m lists c.args.change.now) c.self.view_is
