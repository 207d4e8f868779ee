use Rattle.std.proofs.Common.{◌∙◌, ℕ, ◌+◌, [], ap, subst, sym}
use Rattle.std.proofs.lemmas.List.{length-append}
use Rattle.vr_rules.specs.declared.fronts.Front.{Front}
use Rattle.vr_rules.specs.Fronts.{IsFrontOf}
use Rattle.vr_reach.proofs.Tables.{each_push}
use Rattle.vr_rules.proofs.fronts.fronts_at_start.Goals as goal

pub loop-d-preserved : goal.loop-d-preserved
loop-d-preserved c =
    let m = c.loop-d.invariant in
    let P = λ (d : ℕ) (front : Front). IsFrontOf c.args.closed.model.now d c.args.v [] front in
    rw c.in_ok-push.ensures.items (record {
      long = length-append c.loop-d.fronts.items _ ∙ ap (λ n. n + 1) m.long;
      each = λ d other lt. each_push P c.loop-d.fronts.items c.in_ok-at_start.field-0 m.each
          (subst (λ n. P n c.in_ok-at_start.field-0) (sym m.long) c.in_ok-at_start.ensures) d other lt;
    })
