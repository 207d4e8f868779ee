use Rattle.std.proofs.Common.{◌≡◌, ◌∙◌, ℕ, ℤ, ◌+◌, ap, subst, sym, of_z, to_z, w64, arith}
use Rattle.std.proofs.lemmas.Int.{ints}
use Rattle.std.proofs.lemmas.List.{length-append}
use Rattle.vr_reach.proofs.Tables.{each_push}
use Rattle.vr_ruin.specs.Carrying.{IsSumIn}
use Rattle.vr_ruin.proofs.carrying.write_sums.Goals as goal

pub loop-d-preserved : goal.loop-d-preserved
loop-d-preserved c =
    let list = c.args.list.now in
    let m = c.loop-d.invariant in
    let P = λ (d : ℕ) (x : ℤ). IsSumIn list.closed.model.now list.vehicle list.nodes.now d x in
    let r = c.load_if.ensures.range in
    let new = to_z w64 (of_z w64 c.load_if.result) in
    let read : new ≡ c.load_if.result = omega (arith, ints, r.low, r.high) in
    rw c.in_ok-push.ensures.ok (record {
      long = length-append c.loop-d.sums _ ∙ ap (λ n. n + 1) m.long;
      each = λ d other low. each_push P c.loop-d.sums new m.each
          (subst (λ n. P n new) (sym m.long) (subst (P c.loop-d.d) (sym read) c.load_if.ensures)) d other low;
    })
