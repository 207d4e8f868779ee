use Rattle.std.proofs.Common.{◌≡◌, ◌∙◌, ◌*◌, ℕ, List, length, ap, sym, subst, arith}
use Rattle.std.specs.Prelude.{IsTrue}
use Rattle.vr_model.specs.tables.Tables.{visits}
use Rattle.vr_model.specs.tables.WellFormed.{IsWellFormed}
use Rattle.vr_model.specs.routes.Rules.{is_valid}
use Rattle.vr_model.specs.declared.records.Model.{Model}
use Rattle.vr_plan.specs.Bounds.{cumul_cost}
use Rattle.vr_plan.proofs.BoundLemmas.{read-around}
use Rattle.vr_routes.specs.Pieces.{changed}
use Rattle.vr_routes.proofs.CommitLemmas.{as_many_lists}
use Rattle.vr_costfilter.specs.declared.orders.SortedEnds.{SortedEnds}
use Rattle.vr_costfilter.specs.GlobalCosts.{global_cost_of, AreAllOrders, IsGlobalCost, KeptSpans}
use Rattle.vr_costfilter.specs.Known.{AreCumulsAt, IsValidChange}
use Rattle.vr_costfilter.proofs.KnownLemmas.{spans-cumuls}
use Rattle.vr_costfilter.proofs.global_span.GlobalSpanCostPart.commit.Goals as goal

pub returns-clause-stands : goal.returns-clause-stands
returns-clause-stands c =
    let h = c.requires.stands in
    let ready = c.requires.ready in
    let before : List (List ℕ) = c.args.routes.now.lists in
    let parts = c.args.change.now in
    let lists : List (List ℕ) = changed before parts in
    let view = c.self.view_is in
    let same = sym (ap (λ (s : KeptSpans). s.model) view) in
    let orders : c.swap.new.x.items ≡ c.args.self.now.next_orders = ap (λ v. v.items) c.swap.ensures.x_after ∙ ap (λ (s : KeptSpans). s.next_orders) view in
    let room : c.swap.new.y.items ≡ c.args.self.now.orders = ap (λ v. v.items) c.swap.ensures.y_after ∙ ap (λ (s : KeptSpans). s.orders) view in
    let range = subst IsGlobalCost (sym (ap (λ (s : KeptSpans). s.next_cost) view)) ready.range in
    let read = read-around c.self.inside.next_cost (cumul_cost * 4) range (omega arith) in
    record {
      well_formed = subst IsWellFormed same h.well_formed;
      of_model = h.of_model ∙ ap visits same;
      valid = subst (λ m. IsTrue (is_valid m lists)) same c.requires.valid;
      as_many = as_many_lists before parts ∙ h.as_many ∙ ap (λ (m : Model). length m.vehicles) same;
      orders = subst (λ (m : Model). AreAllOrders m lists c.swap.new.x.items) same
          (subst (λ (os : List SortedEnds). AreAllOrders c.args.self.now.model lists os) (sym orders) ready.orders);
      room = ap (λ (os : List SortedEnds). length os) room ∙ h.orders.many ∙ ap (λ (m : Model). length m.dimensions) same;
      cost = read ∙ ap (λ (s : KeptSpans). s.next_cost) view ∙ ready.cost ∙ ap (λ (m : Model). global_cost_of m lists) same;
      range = subst IsGlobalCost (sym read) range;
      cumuls = c.commit.ensures;
    }

pub commit-requires : goal.commit-requires
commit-requires c = subst (λ (s : KeptSpans). IsValidChange (AreCumulsAt s.model s.cumuls) s.model c.args.routes.now c.args.change.now) (sym c.self.view_is)
    (spans-cumuls c.args.self.now c.args.routes.now c.args.change.now (record { stands = c.requires.stands; made = c.requires.made; valid = c.requires.valid }))
