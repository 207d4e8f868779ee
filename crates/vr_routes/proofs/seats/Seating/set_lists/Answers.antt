use Rattle.std.proofs.Common.{◌≡◌, ◌∙◌, ◌<◌, [], ℕ, ap, arith, subst, sym, length, length-set}
use Rattle.std.specs.Prelude.{All, slice_set}
use Rattle.std.proofs.lemmas.List.{get_or_default}
use Rattle.vr_model.specs.routes.Routes.{route}
use Rattle.vr_routes.specs.Seats.{IsOnce, IsSameOrEmpty}
use Rattle.vr_routes.proofs.FinalLemmas.{list_below}
use Rattle.vr_routes.proofs.ListsLemmas.{one_filled, filled_once, same_filled}
use Rattle.vr_routes.proofs.TourLemmas.{lists_agree}
use Rattle.vr_routes.proofs.seats.Seating.set_lists.Goals as goal

pub loop-v-init : goal.loop-v-init
loop-v-init c = record {
  nodes = c.clear_others.ensures.nodes;
  many = c.clear_others.ensures.many;
  done = λ w low. absurd (omega (arith, low));
  some = c.clear_others.ensures.each;
}

pub fill-requires-clause-may : goal.fill-requires-clause-may
fill-requires-clause-may c =
    let whole = c.args.lists.now in
    let now = c.loop-v.self.lists in
    let v : ℕ = c.loop-v.v in
    let many = c.loop-v.invariant.many ∙ c.requires.many in
    let row : c.as_slice.result.now ≡ route whole v = c.as_slice.ensures ∙ c.index-lists-v.is
    ∙ get_or_default whole v c.index-lists-v.result [] c.loop-v-test.true in
    record {
      vehicle = omega (arith, c.loop-v-test.true, many);
      nodes = subst (λ n. All (λ node. node < n) c.as_slice.result.now) (sym c.loop-v.invariant.nodes)
          (list_below c.args.self.now.nodes whole c.requires.once c.requires.nodes v c.loop-v-test.true c.as_slice.result.now (sym row));
      once = subst (λ l. IsOnce (slice_set now v l)) (sym row) (filled_once whole now v many c.loop-v-test.true c.loop-v.invariant.some c.requires.once);
    }

pub fill-requires-clause-there : goal.fill-requires-clause-there
fill-requires-clause-there c =
    let whole = c.args.lists.now in
    let v : ℕ = c.loop-v.v in
    let row : c.as_slice.result.now ≡ route whole v = c.as_slice.ensures ∙ c.index-lists-v.is
    ∙ get_or_default whole v c.index-lists-v.result [] c.loop-v-test.true in
    subst (λ l. IsSameOrEmpty l (route c.loop-v.self.lists v)) (sym row) (c.loop-v.invariant.some v c.loop-v-test.true)

pub loop-v-preserved : goal.loop-v-preserved
loop-v-preserved c =
    let whole = c.args.lists.now in
    let now = c.loop-v.self.lists in
    let v : ℕ = c.loop-v.v in
    let low : v < length now = omega (arith, c.loop-v-test.true, c.loop-v.invariant.many, c.requires.many) in
    let row : c.as_slice.result.now ≡ route whole v = c.as_slice.ensures ∙ c.index-lists-v.is
    ∙ get_or_default whole v c.index-lists-v.result [] c.loop-v-test.true in
    let is : c.fill.new.self.lists ≡ slice_set now v (route whole v) = c.fill.ensures.lists ∙ ap (slice_set now v) row in
    record {
      nodes = c.fill.ensures.nodes ∙ c.loop-v.invariant.nodes;
      many = ap length is ∙ length-set now v (route whole v) ∙ c.loop-v.invariant.many;
      done = λ w w_low. ap (λ lists. route lists w) is ∙ one_filled whole now v low c.loop-v.invariant.done w w_low;
      some = λ w w_low. subst (λ lists. IsSameOrEmpty (route whole w) (route lists w)) (sym is) (same_filled whole now v low c.loop-v.invariant.some w w_low);
    }

pub returns-clause-lists : goal.returns-clause-lists
returns-clause-lists c =
    let many = c.loop-v.invariant.many ∙ c.requires.many in
    lists_agree c.loop-v.self.lists c.args.lists.now many (λ w low. c.loop-v.invariant.done w (omega (arith, low, many, c.loop-v-test.false)))
