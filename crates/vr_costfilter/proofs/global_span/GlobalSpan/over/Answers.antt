use Rattle.std.proofs.Common.{◌∙◌, ◌*◌, [], ℕ, List, length, ap, sym, subst, arith}
use Rattle.std.specs.Prelude.{IsTrue}
use Rattle.vr_model.specs.tables.Tables.{visits}
use Rattle.vr_model.specs.tables.WellFormed.{IsWellFormed}
use Rattle.vr_model.specs.routes.Rules.{is_valid}
use Rattle.vr_model.specs.declared.records.Model.{Model}
use Rattle.vr_plan.specs.Bounds.{cumul_cost}
use Rattle.vr_plan.proofs.BoundLemmas.{read-around}
use Rattle.vr_costfilter.specs.GlobalCosts.{spans_cost_after, IsGlobalCost}
use Rattle.vr_costfilter.proofs.GlobalLemmas.{cost-alone}
use Rattle.vr_parts.proofs.PartLemmas.{small}
use Rattle.vr_costfilter.proofs.global_span.GlobalSpan.over.Goals as goal

pub returns-clause-stands : goal.returns-clause-stands
returns-clause-stands c =
    let lists : List (List ℕ) = c.args.routes.now.lists in
    let rules : Model = c.in_ok-rules.rules in
    let same = sym c.in_ok-rules.ensures in
    let kept = c.in_ok-orders.ensures in
    let well = c.args.lookups.now.closed.well_formed in
    let s = small c.args.lookups.now.closed.model.now well lists c.requires.valid in
    let r = c.cost-cost.ensures in
    let read = read-around c.cost-cost.result (cumul_cost * 4) r.range (omega arith) in
    record {
      well_formed = subst IsWellFormed same well;
      of_model = c.requires.of_model ∙ ap visits same;
      valid = subst (λ m. IsTrue (is_valid m lists)) same c.requires.valid;
      as_many = s.many ∙ ap (λ (m : Model). length m.vehicles) same;
      orders = kept.orders;
      room = kept.room;
      cost = read ∙ r.value ∙ ap (λ os. spans_cost_after rules os [] []) c.deref.ensures.value ∙ cost-alone rules lists c.in_ok-orders.orders.items kept.orders;
      range = subst IsGlobalCost (sym read) r.range;
      cumuls = kept.cumuls;
    }
