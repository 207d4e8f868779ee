use Rattle.std.proofs.Common.{◌≡◌, ◌∙◌, ◌∷◌, [], length, get_or, ap, sym, subst, arith, inl, inr}
use Rattle.std.proofs.lemmas.Bool.{cases_lt}
use Rattle.std.proofs.lemmas.List.{get_or_append_left, get_or_push, length-append}
use Rattle.vr_reach.specs.VisitSets.{capacity_of, IsSetOfNode}
use Rattle.vr_reach.proofs.visits.visit_sets.Goals as goal

pub loop-node-preserved : goal.loop-node-preserved
loop-node-preserved c =
    let m = c.args.vehicle.closed.model.now in
    let d = c.args.vehicle.d in
    let before = c.loop-node.sets in
    let new = c.in_ok-visit_set.field-0 in
    let n = length-append before (new ∷ []) in
    let long = c.loop-node.invariant.long in
    let P = IsSetOfNode m d (capacity_of m d c.args.vehicle.v) in
    record {
      long = ap length c.in_ok-push.ensures.ok ∙ omega (arith, n, long);
      each = λ k low. subst (λ sets. P k (get_or sets k [])) (sym c.in_ok-push.ensures.ok) (elim (cases_lt k c.loop-node.node) [
        | inl earlier ↦ subst (P k) (sym (get_or_append_left before (new ∷ []) [] k (omega (arith, earlier, long)))) (c.loop-node.invariant.each k earlier)
        | inr at ↦ (let e : c.loop-node.node ≡ k = omega (arith, low, at) in
            subst (P k) (sym (get_or_push before new [] k (long ∙ e))) (subst (λ j. P j new) e c.in_ok-visit_set.ensures))
      ]);
    }
