use Rattle.std.proofs.Common.{◌≡◌, ◌∙◌, ◌*◌, ℕ, List, length, refl, ap, sym, subst, arith}
use Rattle.vr_model.specs.declared.records.Model.{Model}
use Rattle.vr_plan.specs.Bounds.{cumul_cost}
use Rattle.vr_plan.proofs.BoundLemmas.{read-around}
use Rattle.vr_routes.specs.Pieces.{changed}
use Rattle.vr_parts.proofs.RowLemmas.{written}
use Rattle.vr_costfilter.specs.declared.orders.SortedEnds.{SortedEnds}
use Rattle.vr_costfilter.specs.GlobalCosts.{global_cost_of, AreAllOrders, IsGlobalCost, KeptSpans}
use Rattle.vr_costfilter.proofs.GlobalLemmas.{ranged-next, rows-like, rows-same}
use Rattle.vr_costfilter.proofs.global_span.GlobalSpan.make_ready.Goals as goal

pub cost_after-self-inside-requires : goal.cost_after-self-inside-requires
cost_after-self-inside-requires c =
    let later : KeptSpans = c.write_next.new.self in
    let parts = c.args.change.now in
    ranged-next later.model c.args.routes.now.lists parts later.orders later.next
    (rows-like c.args.self.now later c.args.routes.now parts c.requires.change c.in_ok-write_next.ensures.like c.in_ok-write_next.ensures.next)

pub returns-clause-ready : goal.returns-clause-ready
returns-clause-ready c =
    let before : List (List ℕ) = c.args.routes.now.lists in
    let parts = c.args.change.now in
    let lists : List (List ℕ) = changed before parts in
    let later : KeptSpans = c.write_next.new.self in
    let like = c.in_ok-write_next.ensures.like in
    let view = c.self.view_is in
    let now = rows-like c.args.self.now later c.args.routes.now parts c.requires.change like c.in_ok-write_next.ensures.next in
    let h = c.requires.change.stands in
    let r = c.cost_after-self-inside.ensures in
    let read = read-around c.cost_after-self-inside.result (cumul_cost * 4) r.range (omega arith) in
    let old : List SortedEnds = c.self.inside.next_orders.items in
    let new : List SortedEnds = c.write_orders.new.out in
    let rules : Model = c.self.inside.rules in
    let seen : rules ≡ later.model = ap (λ (s : KeptSpans). s.model) view in
    let model : rules ≡ c.args.self.now.model = seen ∙ like.model in
    let room : length old ≡ length rules.dimensions = ap (λ (s : KeptSpans). length s.next_orders) view
    ∙ like.room ∙ h.room ∙ ap (λ (m : Model). length m.dimensions) (sym model) in
    let wrote : AreAllOrders rules lists new = c.write_orders.ensures before
    (rows-same later.model rules before parts later.orders c.deref.result.now later.next c.deref-2.result.now
    seen (c.deref.ensures.value ∙ ap (λ (s : KeptSpans). s.orders) view) (c.deref-2.ensures.0 ∙ ap (λ (s : KeptSpans). s.next) view) now) in
    record {
      prepared = refl;
      orders = subst (AreAllOrders rules lists)
          (sym (written old new c.self.inside.next_orders.len (wrote.many ∙ sym room) (sym c.deref_mut.ensures.len ∙ ap length c.deref_mut.ensures.value)))
          wrote;
      cost = read ∙ r.value before now ∙ ap (λ (s : KeptSpans). global_cost_of s.model lists) (sym view);
      range = subst IsGlobalCost (sym read) r.range;
    }

pub write_orders-requires-clause-rows : goal.write_orders-requires-clause-rows
write_orders-requires-clause-rows c =
    let lists : List (List ℕ) = c.args.routes.now.lists in
    let parts = c.args.change.now in
    let later : KeptSpans = c.write_next.new.self in
    let view = c.self.view_is in
    let now = rows-like c.args.self.now later c.args.routes.now parts c.requires.change c.in_ok-write_next.ensures.like c.in_ok-write_next.ensures.next in (
      lists,
      rows-same later.model c.self.inside.rules lists parts later.orders c.deref.result.now later.next c.deref-2.result.now
          (ap (λ (s : KeptSpans). s.model) view) (c.deref.ensures.value ∙ ap (λ (s : KeptSpans). s.orders) view)
          (c.deref-2.ensures.0 ∙ ap (λ (s : KeptSpans). s.next) view) now,
    )
