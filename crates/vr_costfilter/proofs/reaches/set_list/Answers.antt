use Rattle.std.proofs.Common.{◌≡◌, ◌∙◌, ◌<◌, ◌≤◌, ◌+◌, ℕ, List, Option, length, take, ap, sym, subst, arith, inl, inr}
use Rattle.std.proofs.lemmas.Bool.{cases_lt}
use Rattle.std.proofs.lemmas.Int.{ints}
use Rattle.std.proofs.lemmas.List.{get_or_default}
use Rattle.std.specs.Prelude.{slice_index_or}
use Rattle.vr_model.specs.routes.Routes.{route}
use Rattle.vr_model.specs.tables.Tables.{no_dimension}
use Rattle.vr_parts.proofs.PartLemmas.{small}
use Rattle.vr_plan.specs.declared.timings.Timing.{Timing}
use Rattle.vr_costfilter.specs.declared.orders.SortedEnds.{SortedEnds}
use Rattle.vr_costfilter.specs.SortedEnds.{AreOrders, IsTimedIfUsed}
use Rattle.vr_costfilter.proofs.OrdersLemmas.{orders-room, orders-set}
use Rattle.vr_costfilter.specs.GlobalCosts.{no_orders, orders_at, timing_in, Pays}
use Rattle.vr_costfilter.proofs.AllOrdersLemmas.{left-at, route-first, route-more, used-first, written-at}
use Rattle.vr_costfilter.proofs.GlobalLemmas.{told-ranged}
use Rattle.vr_costfilter.proofs.KnownLemmas.{tour-of}
use Rattle.vr_costfilter.proofs.PartLemmas.{list-of}
use Rattle.vr_costfilter.proofs.reaches.set_list.Goals as goal
use Rattle.vr_costfilter.proofs.reaches.set_list.Goals.{then-get-ne0, else-get-ne0}

pub invariant_of-tour : goal.invariant_of-tour
invariant_of-tour c =
    let m = c.args.closed.model.now in
    let well = c.args.closed.well_formed in
    let lists : List (List ℕ) = c.args.routes.now.lists in
    let many = (small m well lists c.requires.valid).many in
    record {
      sound = tour-of m c.args.v (route lists c.args.v) (omega (arith, many, c.requires.vehicle))
          (list-of m well lists c.requires.valid c.args.v) c.list.result.now c.list.ensures.value;
    }

pub set-requires-clause-range : goal.set-requires-clause-range
set-requires-clause-range c =
    let m = c.args.closed.model.now in
    let d = c.loop-d.d in
    let low : d < length m.dimensions = omega (arith, c.loop-d.invariant.many, c.loop-d.auto.orders, c.loop-d-test.true) in
    let some = c.if-get-ne0.true in
    let same = ap (λ x. x.global_span_cost) (c.get.ensures.value no_dimension) in
    let pays : Pays m d = λ none. absurd (omega (arith, ints, some, same, none)) in
    told-ranged m d c.args.v c.list.result.now (timing_in d c.in_ok-row.row) ((c.in_ok-row.ensures.each d low).told pays)

pub set-requires-clause-room : goal.set-requires-clause-room
set-requires-clause-room c =
    let m = c.args.closed.model.now in
    let d = c.loop-d.d in
    let os : List SortedEnds = c.loop-d.orders in
    let low : d < length m.dimensions = omega (arith, c.loop-d.invariant.many, c.loop-d.auto.orders, c.loop-d-test.true) in
    let inside : d < length os = omega (arith, c.loop-d.auto.orders, c.loop-d-test.true) in
    let some = c.if-get-ne0.true in
    let same = ap (λ x. x.global_span_cost) (c.get.ensures.value no_dimension) in
    let pays : Pays m d = λ none. absurd (omega (arith, ints, some, same, none)) in
    let lists : List (List ℕ) = take c.args.v c.args.routes.now.lists in
    let read : slice_index_or os d c.index-orders-d.result ≡ orders_at os d = get_or_default os d c.index-orders-d.result no_orders inside in
    let are = subst (AreOrders m d lists) (sym read) (c.loop-d.invariant.left d (omega arith) low pays) in
    let many = (small m c.args.closed.well_formed c.args.routes.now.lists c.requires.valid).many in
    let few : length c.args.routes.now.lists ≤ 100 = omega (arith, many, c.args.closed.well_formed.number_of_vehicles.at_most) in
    orders-room m d lists (slice_index_or os d c.index-orders-d.result) are c.args.v (c.args.v + 1)
    (λ u used. (let l = used-first c.args.routes.now.lists c.args.v u used in omega (arith, l))) (omega arith) (omega (arith, few, c.requires.vehicle))

pub loop-d-preserved : goal.loop-d-preserved
loop-d-preserved c =
    let v = c.args.v in
    let all : List (List ℕ) = c.args.routes.now.lists in
    let row : List (Option Timing) = c.in_ok-row.row in
    let m = c.args.closed.model.now in
    let d = c.loop-d.d in
    let os : List SortedEnds = c.loop-d.orders in
    let i = c.loop-d.invariant in
    let low : d < length m.dimensions = omega (arith, c.loop-d.invariant.many, c.loop-d.auto.orders, c.loop-d-test.true) in
    let inside : d < length os = omega (arith, c.loop-d.auto.orders, c.loop-d-test.true) in
    let same = ap (λ x. x.global_span_cost) (c.get.ensures.value no_dimension) in
    record {
      many = c.if-get-ne0.auto.orders ∙ i.many;
      done = λ e under there pays. elim c.if-get-ne0.branch [
        | then-get-ne0 w ↦ (
            let here : Pays m d → AreOrders m d (take (v + 1) all) w.set.new.self = λ pay. (
            let read : slice_index_or os d w.index-orders-d.result ≡ orders_at os d = get_or_default os d w.index-orders-d.result no_orders inside in
            let are = subst (AreOrders m d (take v all)) (sym read) (i.left d (omega arith) low pay) in
            let told : IsTimedIfUsed m d v (route (take (v + 1) all) v) (timing_in d row) = subst (λ l. IsTimedIfUsed m d v l (timing_in d row))
            (c.list.ensures.value ∙ sym (route-first all (v + 1) v (omega arith))) ((c.in_ok-row.ensures.each d low).told pay) in
            subst (AreOrders m d (take (v + 1) all)) (sym w.set.ensures)
            (orders-set m d (take v all) (slice_index_or os d w.index-orders-d.result) are v
            (take (v + 1) all) (λ u apart. route-more all v u apart) (timing_in d row) told)) in
            subst (λ (xs : List SortedEnds). AreOrders m e (take (v + 1) all) (orders_at xs e)) (sym w.orders-is)
            (written-at (λ k x. Pays m k → AreOrders m k (take (v + 1) all) x) os d
            w.set.new.self inside here e under (λ before pay. i.done e before there pay) pays))
        | else-get-ne0 w ↦ subst (λ (xs : List SortedEnds). AreOrders m e (take (v + 1) all) (orders_at xs e)) (sym w.orders-is) (elim (cases_lt e d) [
          | inl before ↦ i.done e before there pays
          | inr past ↦ (
              let at : d ≡ e = omega (arith, under, past) in
              let none = w.if-get-ne0.false in
              absurd (subst (λ k. Pays m k) (sym at) pays (omega (arith, ints, none, same))))
        ])
      ];
      left = λ e past there pays. elim c.if-get-ne0.branch [
        | then-get-ne0 w ↦ subst (λ (xs : List SortedEnds). AreOrders m e (take v all) (orders_at xs e)) (sym w.orders-is)
            (left-at (λ k x. AreOrders m k (take v all) x) os d w.set.new.self e past (i.left e (omega (arith, past)) there pays))
        | else-get-ne0 w ↦
            subst (λ (xs : List SortedEnds). AreOrders m e (take v all) (orders_at xs e)) (sym w.orders-is) (i.left e (omega (arith, past)) there pays)
      ];
    }

pub returns : goal.returns
returns c =
    let i = c.loop-d.invariant in
    record { many = i.many; each = λ d low pays. i.done d (omega (arith, i.many, c.loop-d.auto.orders, c.loop-d-test.false, low)) low pays }
