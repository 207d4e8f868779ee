use Rattle.std.proofs.Common.{◌≡◌, arith, of_z, subst, to_z, w64}
use Rattle.std.specs.Prelude.{◌<ℤ◌}
use Rattle.std.proofs.lemmas.Int.{ints}
use Rattle.vr_ruin.specs.Increases.{visit_increase}
use Rattle.vr_ruin.proofs.PlaceLemmas.{more-above}
use Rattle.vr_ruin.proofs.places.next_place.Goals as goal

pub loop-place-preserved : goal.loop-place-preserved
loop-place-preserved c =
    let list = c.args.list.now in
    more-above (λ u. to_z w64 (of_z w64 c.args.bound) <ℤ visit_increase list.closed.model.now list.vehicle list.nodes.now c.args.x u)
    c.args.t c.loop-place.place c.loop-place.invariant
    (let is = c.increase_at.ensures in omega (arith, ints, is, c.ranges.bound, c.if-increase_at-bound.false))

pub returns-clause-above : goal.returns-clause-above
returns-clause-above c = λ u low high.
    let list = c.args.list.now in
    let read : to_z w64 (of_z w64 c.args.bound) ≡ c.args.bound = omega (arith, ints, c.ranges.bound) in
    subst (λ b. b <ℤ visit_increase list.closed.model.now list.vehicle list.nodes.now c.args.x u)
    read (c.loop-place.invariant u low (omega (arith, high, c.loop-place-test.false)))
