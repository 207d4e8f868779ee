use Rattle.std.proofs.Common.{◌∙◌, ◌<◌, ◌≤◌, ◌+◌, ◌++◌, ◌∷◌, [], ℕ, List, arith, ap, sym, subst, length}
use Rattle.arrayvec.specs.ArrayVec.{array_vec_len}
use Rattle.std.specs.Prelude.{slice_index_or}
use Rattle.vr_model.specs.tables.WellFormed.{IsPair}
use Rattle.vr_model.specs.declared.records.Pair.{Pair}
use Rattle.vr_model.proofs.routes.Lists.{visit_below}
use Rattle.vr_lists.proofs.PlaceLemmas.{served_in-there, served_in-absent}
use Rattle.vr_lists.proofs.pairs.write_served.Goals.{then-pickup-list, else-pickup-list}
use Rattle.vr_lists.proofs.pairs.write_served.Goals as goal

pub loop-k-preserved : goal.loop-k-preserved
loop-k-preserved c =
    let model = c.args.closed.model.now in
    let list = c.args.list.now in
    let places : List ℕ = c.args.places.now in
    let k : ℕ = c.loop-k.k in
    let pair : Pair = c.get-pair.result.now in
    let low : k < length model.pairs = omega arith in
    let visits : IsPair model pair = subst (IsPair model) (c.get-pair.ensures.value pair) (c.args.closed.well_formed.each_pair k pair low) in
    let at_pickup = c.requires.places.each pair.pickup 0 (visit_below model pair.pickup visits.pickup_is_visit) in
    let at_delivery = c.requires.places.each pair.delivery 0 (visit_below model pair.delivery visits.delivery_is_visit) in
    elim c.if-pickup-list.branch [
      | then-pickup-list w ↦ record {
        written = ap (λ s. s.items) w.served-is ∙ w.push.ensures.items
            ∙ ap (λ s. s ++ record { pickup = slice_index_or places pair.pickup 0; delivery = slice_index_or places pair.delivery 0 } ∷ [])
            c.loop-k.invariant.written
            ∙ served_in-there list pair _ _ at_pickup at_delivery model.pairs k low c.get-pair.ensures.value w.if-pickup-list.true;
        few = subst (λ s. array_vec_len s ≤ k + 1) (sym w.served-is) (let n = w.push.ensures.len in let m = c.loop-k.invariant.few in omega (arith, n, m));
      }
      | else-pickup-list w ↦ record {
        written = ap (λ s. s.items) w.served-is ∙ c.loop-k.invariant.written
            ∙ served_in-absent list pair _ _ at_pickup at_delivery model.pairs k low c.get-pair.ensures.value w.if-pickup-list.false;
        few = subst (λ s. array_vec_len s ≤ k + 1) (sym w.served-is) (let m = c.loop-k.invariant.few in omega (arith, m));
      }
    ]
