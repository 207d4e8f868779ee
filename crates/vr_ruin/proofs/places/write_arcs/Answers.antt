use Rattle.std.proofs.Common.{◌≡◌, ◌∙◌, ℕ, ℤ, ◌+◌, ap, subst, sym, of_z, to_z, w64, arith}
use Rattle.std.proofs.lemmas.Int.{ints}
use Rattle.std.proofs.lemmas.List.{length-append}
use Rattle.vr_reach.proofs.Tables.{each_push}
use Rattle.vr_ruin.specs.Arcs.{IsArcAt}
use Rattle.vr_ruin.proofs.PlaceLemmas.{arc-at}
use Rattle.vr_ruin.proofs.places.write_arcs.Goals as goal

pub loop-t-preserved : goal.loop-t-preserved
loop-t-preserved c =
    let list = c.args.list.now in
    let m = c.loop-t.invariant in
    let P = λ (t : ℕ) (x : ℤ). IsArcAt list.closed.model.now list.vehicle list.nodes.now t x in
    let e = c.arc_between.ensures in
    let new = to_z w64 (of_z w64 c.arc_between.result) in
    let read : new ≡ c.arc_between.result = omega (arith, ints, e.low, e.high) in
    let here = arc-at list.closed.model.now list.vehicle list.nodes.now c.loop-t.t c.node_before-a.result c.node_after-b.result
    c.arc_between.result c.node_before-a.ensures.node c.node_after-b.ensures.node e.value e.low e.high in
    rw c.in_ok-push.ensures.ok (record {
      long = length-append c.loop-t.arcs _ ∙ ap (λ n. n + 1) m.long;
      each = λ t other low. each_push P c.loop-t.arcs new m.each (subst (λ n. P n new) (sym m.long) (subst (P c.loop-t.t) (sym read) here)) t other low;
    })
