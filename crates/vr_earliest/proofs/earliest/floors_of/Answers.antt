use Rattle.std.proofs.Common.{◌∙◌, ℕ, ◌+◌, length-append, ap, subst, sym}
use Rattle.vr_earliest.specs.declared.floors.Floors.{Floors}
use Rattle.vr_earliest.specs.Floors.{AreFloors}
use Rattle.vr_parts.proofs.RowLemmas.{each-push}
use Rattle.vr_earliest.proofs.earliest.floors_of.Goals as goal

pub loop-d-preserved : goal.loop-d-preserved
loop-d-preserved c =
    let m = c.loop-d.invariant in
    let P = λ (d : ℕ) (floors : Floors). AreFloors c.args.closed.model.now d floors in
    rw c.in_ok-push.ensures.items (record {
      many = length-append c.loop-d.floors.items _ ∙ ap (λ n. n + 1) m.many;
      each = λ d other low. each-push P c.loop-d.floors.items c.in_ok-of.field-0 m.each
          (subst (λ n. P n c.in_ok-of.field-0) (sym m.many) c.in_ok-of.ensures) d other low;
    })
