use Rattle.std.proofs.Common.{◌≡◌, ◌∙◌, ℕ, Bool, ◌+◌, ap, subst, sym}
use Rattle.std.proofs.lemmas.List.{length-append}
use Rattle.vr_reach.proofs.Tables.{each_push}
use Rattle.vr_loads.specs.Loads.{is_load}
use Rattle.vr_ruin.proofs.carrying.loads_of.Goals as goal

pub loop-d-preserved : goal.loop-d-preserved
loop-d-preserved c =
    let m = c.loop-d.invariant in
    let P = λ (d : ℕ) (told : Bool). told ≡ is_load c.args.closed.model.now d in
    rw c.in_ok-push.ensures.items (record {
      long = length-append c.loop-d.loads.items _ ∙ ap (λ n. n + 1) m.long;
      each = λ d other low. each_push P c.loop-d.loads.items c.is_load.result m.each
          (subst (λ n. P n c.is_load.result) (sym m.long) c.is_load.ensures) d other low;
    })
