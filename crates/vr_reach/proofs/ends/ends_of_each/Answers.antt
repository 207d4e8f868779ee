use Rattle.std.proofs.Common.{◌∙◌, ◌<◌, ◌∷◌, [], ℕ, length, get_or, ap, sym, subst, arith}
use Rattle.std.proofs.lemmas.List.{length-append}
use Rattle.vr_reach.specs.declared.ends.Ends.{Ends}
use Rattle.vr_reach.specs.Stops.{AreEndsOf}
use Rattle.vr_reach.proofs.Tables.{each_push}
use Rattle.vr_reach.proofs.ends.ends_of_each.Goals as goal

pub loop-v-preserved : goal.loop-v-preserved
loop-v-preserved c =
    let m = c.args.closed.model.now in
    let d = c.args.d in
    let before = c.loop-v.ends.items in
    let new = c.in_ok-build.field-0 in
    let n = length-append before (new ∷ []) in
    let long = c.loop-v.invariant.many in
    record {
      many = ap length c.in_ok-push.ensures.items ∙ omega (arith, n, long);
      each = subst (λ ends. (v : ℕ) (other : Ends) → v < length ends → AreEndsOf m d v (get_or ends v other)) (sym c.in_ok-push.ensures.items)
          (each_push (AreEndsOf m d) before new c.loop-v.invariant.each (subst (λ k. AreEndsOf m d k new) (sym long) c.in_ok-build.ensures));
    }
