use Rattle.std.proofs.Common.{◌∙◌, ◌+◌, suc, refl, ap, subst, arith, length, map}
use Rattle.std.specs.Prelude.{None}
use Rattle.vr_model.specs.tables.Numbers.{from_to}
use Rattle.vr_model.proofs.tables.Ranges.{walk_begins, walk_ends, walk_opens}
use Rattle.vr_ruin.specs.Placings.{best_of, no_more_than, offer_for, weigh, IsAbove}
use Rattle.vr_ruin.specs.Increases.{visit_increase}
use Rattle.vr_ruin.specs.declared.placing.Placing.TheVariants.{One}
use Rattle.vr_ruin.proofs.PlaceLemmas.{passed-to}
use Rattle.vr_ruin.proofs.asking.Asker.best_visit.Goals as goal

pub places-init : goal.places-init
places-init c = record {
  model = refl;
  within = omega arith;
  left = walk_begins (λ ts. no_more_than c.args.limit (best_of c.args.self.now c.args.list.vehicle c.args.list.nodes.now None (map (One c.args.node) ts)))
      (suc (length c.args.list.nodes.now));
}

pub overflow_cast-place : goal.overflow_cast-place
overflow_cast-place c = let few = c.requires.may.few in let last = c.next-place.ensures.last in omega (arith, few, last)

pub places-preserved : goal.places-preserved
places-preserved c =
    let model = c.args.self.now in
    let v = c.args.list.vehicle in
    let list = c.args.list.nodes.now in
    let n = suc (length list) in
    let last = c.next-place.ensures.last in
    let here = passed-to model v list c.args.limit c.places.best c.bound_of.result c.args.node
    c.places.t c.next-place.result c.bound_of.ensures c.next-place.ensures.first last
    (λ u low high. subst (λ m. IsAbove c.bound_of.result (visit_increase m v list c.args.node u))
    c.places.invariant.model (c.next-place.ensures.above u low high)) ∙ c.places.invariant.left in
    let best = c.in_ok-best.ensures.best
    ∙ ap (λ m. weigh m list c.places.best (offer_for m v list (One c.args.node c.next-place.result))) c.places.invariant.model in
    record {
      model = c.in_ok-best.ensures.model ∙ c.places.invariant.model;
      within = omega (arith, last, c.if-place-n.false);
      left = ap (λ b. no_more_than c.args.limit (best_of model v list b (map (One c.args.node) (from_to (c.next-place.result + 1) n)))) best
          ∙ walk_opens (λ ts. no_more_than c.args.limit (best_of model v list c.places.best (map (One c.args.node) ts)))
          n c.next-place.result here (omega (arith, c.if-place-n.false));
    }

pub returns-then-place-n-clause-best : goal.returns-then-place-n-clause-best
returns-then-place-n-clause-best c =
    let v = c.args.list.vehicle in
    let list = c.args.list.nodes.now in
    let here = passed-to c.args.self.now v list c.args.limit c.places.best c.bound_of.result c.args.node
    c.places.t c.next-place.result c.bound_of.ensures c.next-place.ensures.first c.next-place.ensures.last
    (λ u low high. subst (λ m. IsAbove c.bound_of.result (visit_increase m v list c.args.node u))
    c.places.invariant.model (c.next-place.ensures.above u low high)) ∙ c.places.invariant.left in
    c.within_limit.ensures ∙ walk_ends (λ ts. no_more_than c.args.limit (best_of c.args.self.now v list c.places.best (map (One c.args.node) ts)))
    (suc (length list)) c.next-place.result here (omega (arith, c.if-place-n.true))

pub returns-clause-best : goal.returns-clause-best
returns-clause-best c =
    c.within_limit-2.ensures ∙ walk_ends
    (λ ts. no_more_than c.args.limit (best_of c.args.self.now c.args.list.vehicle c.args.list.nodes.now c.places.best (map (One c.args.node) ts)))
    (suc (length c.args.list.nodes.now)) c.places.t c.places.invariant.left (omega (arith, c.places-test.false))
