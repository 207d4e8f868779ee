use Rattle.std.proofs.Common.{◌≡◌, ◌∙◌, ◌+◌, suc, ap, subst, arith, length, map, of_z, to_z, w64}
use Rattle.std.proofs.lemmas.Int.{ints}
use Rattle.vr_model.specs.tables.Numbers.{from_to}
use Rattle.vr_model.proofs.tables.Ranges.{walk_ends, walk_opens}
use Rattle.vr_ruin.specs.Increases.{visit_increase}
use Rattle.vr_ruin.specs.Placings.{best_of, offer_for, weigh, IsAbove}
use Rattle.vr_ruin.specs.declared.placing.Placing.TheVariants.{Two}
use Rattle.vr_ruin.proofs.PlaceLemmas.{delivery-passed-to}
use Rattle.vr_ruin.proofs.asking.Asker.best_further.Goals as goal

pub places-preserved : goal.places-preserved
places-preserved c =
    let model = c.args.self.now in
    let v = c.args.list.vehicle in
    let list = c.args.list.nodes.now in
    let n = suc (length list) in
    let m = c.places.invariant in
    let alone = to_z w64 (of_z w64 c.alone-alone.result) in
    let read : alone ≡ c.alone-alone.result = omega (arith, ints, c.alone-alone.ensures.low, c.alone-alone.ensures.high) in
    let last = c.next-place.ensures.last in
    let here = delivery-passed-to model v list c.places.best c.bound_beside.result c.args.pickup c.args.delivery c.args.s c.places.t c.next-place.result alone
    (read ∙ c.alone-alone.ensures.value) m.begins c.next-place.ensures.first last c.bound_beside.ensures
    (λ u low high. subst (λ m. IsAbove c.bound_beside.result (visit_increase m v list c.args.delivery u)) m.model (c.next-place.ensures.above u low high))
    ∙ m.left in
    let best = c.in_ok-best.ensures.best
    ∙ ap (λ m. weigh m list c.places.best (offer_for m v list (Two c.args.pickup c.args.delivery c.args.s c.next-place.result))) m.model in
    record {
      model = c.in_ok-best.ensures.model ∙ m.model;
      begins = omega (arith, m.begins, c.next-place.ensures.first);
      within = omega (arith, last, c.if-place-n.false);
      left = ap (λ b. best_of model v list b (map (Two c.args.pickup c.args.delivery c.args.s) (from_to (c.next-place.result + 1) n))) best
          ∙ walk_opens (λ ts. best_of model v list c.places.best (map (Two c.args.pickup c.args.delivery c.args.s) ts))
          n c.next-place.result here (omega (arith, c.if-place-n.false));
    }

pub returns-then-place-n-clause-best : goal.returns-then-place-n-clause-best
returns-then-place-n-clause-best c =
    let model = c.args.self.now in
    let v = c.args.list.vehicle in
    let list = c.args.list.nodes.now in
    let m = c.places.invariant in
    let alone = to_z w64 (of_z w64 c.alone-alone.result) in
    let read : alone ≡ c.alone-alone.result = omega (arith, ints, c.alone-alone.ensures.low, c.alone-alone.ensures.high) in
    let here = delivery-passed-to model v list c.places.best c.bound_beside.result c.args.pickup c.args.delivery c.args.s c.places.t c.next-place.result alone
    (read ∙ c.alone-alone.ensures.value) m.begins c.next-place.ensures.first c.next-place.ensures.last c.bound_beside.ensures
    (λ u low high. subst (λ m. IsAbove c.bound_beside.result (visit_increase m v list c.args.delivery u)) m.model (c.next-place.ensures.above u low high))
    ∙ m.left in
    walk_ends (λ ts. best_of model v list c.places.best (map (Two c.args.pickup c.args.delivery c.args.s) ts))
    (suc (length list)) c.next-place.result here (omega (arith, c.if-place-n.true))
