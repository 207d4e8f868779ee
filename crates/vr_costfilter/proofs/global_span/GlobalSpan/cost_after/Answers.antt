use Rattle.std.proofs.Common.{◌∙◌, ◌*◌, ap, arith}
use Rattle.vr_plan.specs.Bounds.{cumul_cost}
use Rattle.vr_plan.proofs.BoundLemmas.{read-around}
use Rattle.vr_costfilter.specs.GlobalCosts.{vehicles_of}
use Rattle.vr_costfilter.proofs.GlobalLemmas.{cost-after, cost-same, ranged-same}
use Rattle.vr_costfilter.proofs.global_span.GlobalSpan.cost_after.Goals as goal

pub cost-requires : goal.cost-requires
cost-requires c =
    let s = c.args.self.now in
    record {
      ranged = ranged-same s.model c.self.inside.rules s.orders c.deref.result.now s.next c.deref-3.result.now
          (ap (λ s. s.model) c.self.view_is) (c.deref.ensures.value ∙ ap (λ s. s.orders) c.self.view_is) (c.deref-3.ensures.0 ∙ ap (λ s. s.next) c.self.view_is)
          c.requires;
    }

pub returns-clause-value : goal.returns-clause-value
returns-clause-value c lists rows =
    let s = c.args.self.now in
    let parts = c.args.change.now in
    read-around c.cost.result (cumul_cost * 4) c.cost.ensures.range (omega arith) ∙ c.cost.ensures.value
    ∙ cost-same s.model c.self.inside.rules s.orders c.deref.result.now (vehicles_of parts) c.deref-2.result.now s.next c.deref-3.result.now
    (ap (λ s. s.model) c.self.view_is) (c.deref.ensures.value ∙ ap (λ s. s.orders) c.self.view_is)
    (c.deref-2.ensures.0 ∙ c.vehicles_of-vehicles.ensures) (c.deref-3.ensures.0 ∙ ap (λ s. s.next) c.self.view_is)
    ∙ cost-after s.model lists s.orders rows.orders_are parts rows.parts_are s.next rows.rows
