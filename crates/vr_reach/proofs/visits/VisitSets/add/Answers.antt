use Rattle.std.proofs.Common.{◌≡◌, ◌∙◌, ◌∷◌, [], length, get_or, ap, sym, subst, arith, inl, inr}
use Rattle.std.proofs.lemmas.Bool.{cases_lt}
use Rattle.std.proofs.lemmas.List.{get_or_append_left, get_or_push, length-append}
use Rattle.vr_reach.specs.VisitSets.{IsTableOf}
use Rattle.vr_reach.proofs.visits.VisitSets.add.Goals as goal

pub returns : goal.returns
returns c =
    let m = c.args.vehicle.closed.model.now in
    let d = c.args.vehicle.d in
    let v = c.args.vehicle.v in
    let before = c.args.self.now.table_of in
    let long = c.requires.one_of_each in
    let capacities = c.table_for.new.capacities in
    let k = c.in_ok-k.k in
    let n = length-append before (k ∷ []) in
    record {
      tables = c.in_ok-k.ensures.tables;
      one_of_each = ap length c.in_ok-push.ensures.ok ∙ omega (arith, n, long);
      each = λ w low. subst (λ all. IsTableOf m d w capacities (get_or all w 0)) (sym c.in_ok-push.ensures.ok) (elim (cases_lt w v) [
        | inl earlier ↦ subst (IsTableOf m d w capacities) (sym (get_or_append_left before (k ∷ []) 0 w (omega (arith, earlier, long))))
            (c.in_ok-k.ensures.kept w (get_or before w 0) (c.requires.each w earlier))
        | inr at ↦ (let e : v ≡ w = omega (arith, low, at) in
            subst (IsTableOf m d w capacities) (sym (get_or_push before k 0 w (long ∙ e)))
            (subst (λ u. IsTableOf m d u capacities k) e c.in_ok-k.ensures.table))
      ]);
    }
