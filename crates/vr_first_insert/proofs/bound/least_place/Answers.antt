use Rattle.std.proofs.Common.{◌≡◌, ◌+◌, ℕ, suc, ℤ, arith, length, sym, subst, to_z, of_z, w64}
use Rattle.std.proofs.lemmas.Int.{ints}
use Rattle.vr_first_insert.specs.Increases.{visit_increase}
use Rattle.vr_first_insert.proofs.FirstPlace.{least-more, IsLeastOf}
use Rattle.vr_first_insert.proofs.bound.least_place.Goals as goal

pub loop-t-preserved : goal.loop-t-preserved
loop-t-preserved c =
    let f : ℕ → ℤ = visit_increase c.args.list.now.lookups.now.closed.model.now c.args.list.now.vehicle c.args.list.now.nodes.now c.args.node in
    let t : ℕ = c.loop-t.t in
    let next = c.visit_increase-in-loop-t.ensures in
    let here : to_z w64 (of_z w64 c.visit_increase-in-loop-t.result) ≡ f t = omega (arith, ints, next.value, next.low, next.high) in
    let more = least-more f t c.loop-t.at (to_z w64 (of_z w64 c.visit_increase-in-loop-t.result)) c.loop-t.invariant.first c.loop-t.invariant.is here in
    record {
      is = subst (λ at. at.least ≡ f at.place) (sym c.cheaper-at.ensures) more.1;
      first = subst (λ at. IsLeastOf f (t + 1) at.place) (sym c.cheaper-at.ensures) more.0;
    }

pub returns : goal.returns
returns c =
    let list = c.args.list.now.nodes.now in
    let first : IsLeastOf (visit_increase c.args.list.now.lookups.now.closed.model.now c.args.list.now.vehicle list c.args.node)
    c.loop-t.t c.loop-t.at.place = c.loop-t.invariant.first in
    let end : c.loop-t.t ≡ suc (length list) = omega arith in
    let earlier = first.earlier in
    record {
      within = omega (arith, earlier, end);
      least = λ t low. first.least t (omega (arith, low, end));
      before = first.before;
    }
