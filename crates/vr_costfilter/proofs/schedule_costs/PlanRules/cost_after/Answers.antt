use Rattle.std.proofs.Common.{◌≡◌, ◌∙◌, sym, subst}
use Rattle.std.specs.Prelude.{IfOk}
use Rattle.vr_model.specs.declared.records.Model.{Model}
use Rattle.vr_routes.specs.Pieces.{part_at}
use Rattle.vr_costfilter.specs.Kept.{AreAllKept}
use Rattle.vr_costfilter.specs.PlanCosts.{cost_after}
use Rattle.vr_costfilter.proofs.KnownLemmas.{valid-part}
use Rattle.vr_costfilter.proofs.schedule_costs.PlanRules.cost_after.Goals as goal

pub invariant_of-part : goal.invariant_of-part
invariant_of-part c = record {
  sound = valid-part c.self.inside.lookups.closed.model.now c.args.self.now c.self.view_is c.self.inside.lookups.closed.well_formed
      c.args.cumuls.now c.args.routes.now c.args.change.now c.requires.change c.args.k c.requires.part;
}

pub cost_of_part-requires-clause-used : goal.cost_of_part-requires-clause-used
cost_of_part-requires-clause-used c =
    record {
      some = sym c.is_empty.ensures ∙ c.if-is_empty.false;
      cumuls = subst (λ m. AreAllKept m c.args.routes.now.lists c.args.cumuls.now) (sym c.self.view_is) c.requires.change.stands.cumuls;
    }

pub returns-clause-value : goal.returns-clause-value
returns-clause-value c =
    subst (λ (m : Model). IfOk c.cost_of_part.result (λ cost. cost ≡ cost_after m c.args.routes.now.lists (part_at c.args.change.now c.args.k)))
    c.self.view_is c.cost_of_part.ensures.value
