use Rattle.std.proofs.Common.{◌≡◌, ◌∙◌, ◌<◌, List, length, ap, sym, subst, arith, inl, inr}
use Rattle.std.proofs.lemmas.Bool.{cases_lt}
use Rattle.std.proofs.lemmas.Int.{ints}
use Rattle.std.proofs.lemmas.List.{get_or_default}
use Rattle.vr_model.specs.tables.Tables.{no_dimension}
use Rattle.vr_routes.specs.Pieces.{changed}
use Rattle.vr_costfilter.specs.declared.orders.SortedEnds.{SortedEnds}
use Rattle.vr_costfilter.specs.SortedEnds.{AreOrders}
use Rattle.vr_costfilter.specs.GlobalCosts.{no_orders, orders_at, Pays}
use Rattle.vr_costfilter.proofs.AllOrdersLemmas.{written-at}
use Rattle.vr_costfilter.proofs.GlobalLemmas.{rows-in}
use Rattle.vr_costfilter.proofs.reaches.write_all.Goals as goal
use Rattle.vr_costfilter.proofs.reaches.write_all.Goals.{then-get-ne0, else-get-ne0}

pub write_in-requires : goal.write_in-requires
write_in-requires c =
    let m = c.args.closed.model.now in
    let h = c.requires.rows in
    let d = c.loop-d.d in
    let less = c.loop-d-test.true in
    let low : d < length m.dimensions = omega (arith, less, h.1.orders_are.many) in
    let same = ap (λ x. x.global_span_cost) (c.get.ensures.value no_dimension) in
    let pays : Pays m d = λ none. absurd (omega (arith, ints, c.if-get-ne0.true, same, none)) in (
      m,
      h.0,
      rows-in m c.args.closed.well_formed h.0 c.args.change.now c.args.orders.now c.args.next.now h.1 d low pays
          c.index-orders-d.result (c.index-orders-d.is ∙ get_or_default c.args.orders.now d c.index-orders-d.result no_orders less),
    )

pub loop-d-preserved : goal.loop-d-preserved
loop-d-preserved c =
    let m = c.args.closed.model.now in
    let parts = c.args.change.now in
    let d = c.loop-d.d in
    let os : List SortedEnds = c.loop-d.out in
    let i = c.loop-d.invariant in
    let less = c.loop-d-test.true in
    let low : d < length m.dimensions = omega (arith, less, c.requires.rows.1.orders_are.many) in
    let inside : d < length os = omega (arith, low, i.many) in
    let same = ap (λ x. x.global_span_cost) (c.get.ensures.value no_dimension) in
    record {
      many = c.if-get-ne0.auto.out ∙ i.many;
      done = λ lists rows e under known pays. elim c.if-get-ne0.branch [
        | then-get-ne0 w ↦ (
            let here : Pays m d → AreOrders m d (changed lists parts) w.write_in.new.out = λ pay.
            w.write_in.ensures m lists
            (rows-in m c.args.closed.well_formed lists parts c.args.orders.now c.args.next.now rows d low pay w.index-orders-d.result
            (w.index-orders-d.is ∙ get_or_default c.args.orders.now d w.index-orders-d.result no_orders less)) in
            subst (λ (xs : List SortedEnds). AreOrders m e (changed lists parts) (orders_at xs e)) (sym w.out-is)
            (written-at (λ k x. Pays m k → AreOrders m k (changed lists parts) x) os d w.write_in.new.out
            inside here e under (λ before pay. i.done lists rows e before known pay) pays))
        | else-get-ne0 w ↦ subst (λ (xs : List SortedEnds). AreOrders m e (changed lists parts) (orders_at xs e)) (sym w.out-is) (elim (cases_lt e d) [
          | inl before ↦ i.done lists rows e before known pays
          | inr past ↦ (
              let at : d ≡ e = omega (arith, under, past) in
              absurd (subst (λ k. Pays m k) (sym at) pays (omega (arith, ints, w.if-get-ne0.false, same))))
        ])
      ];
    }

pub returns : goal.returns
returns c lists rows =
    let i = c.loop-d.invariant in
    record { many = i.many; each = λ d low pays. i.done lists rows d (omega (arith, low, rows.orders_are.many, c.loop-d-test.false)) low pays }
