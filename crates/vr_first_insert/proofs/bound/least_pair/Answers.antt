use Rattle.std.proofs.Common.{◌≡◌, ◌≤◌, ◌≤ℤ◌, ℕ, length, arith, sym, subst, to_z, of_z, w64}
use Rattle.std.proofs.lemmas.Int.{ints, int_min_is}
use borrow.Author.Count.{below_more}
use Rattle.vr_first_insert.specs.Increases.{pair_increase}
use Rattle.vr_first_insert.proofs.BoundLemmas.{least-read}
use Rattle.vr_first_insert.proofs.bound.least_pair.Goals as goal

pub least_behind-least-requires-clause-least : goal.least_behind-least-requires-clause-least
least_behind-least-requires-clause-least c =
    let alone = c.least_visit-alone.ensures in
    least-read c.args.list.now c.args.delivery c.least_visit-alone.result alone.least alone.low alone.high

pub least_behind-requires-clause-least : goal.least_behind-requires-clause-least
least_behind-requires-clause-least c =
    let alone = c.least_visit-alone.ensures in
    least-read c.args.list.now c.args.delivery c.least_visit-alone.result alone.least alone.low alone.high

pub loop-s-init : goal.loop-s-init
loop-s-init c =
    let first = c.least_behind-least.ensures in
    record {
      least = λ s low t within.
          let zero : s ≡ 0 = omega (arith, low) in
          let here = first.least t within in
          subst (λ s. to_z w64 (of_z w64 c.least_behind-least.result)
          ≤ℤ pair_increase c.args.list.now.lookups.now.closed.model.now c.args.list.now.vehicle c.args.list.now.nodes.now c.args.pickup c.args.delivery s t)
          (sym zero)
          (omega (arith, ints, here, first.low, first.high));
      low = omega (arith, ints, first.low, first.high);
      high = omega (arith, ints, first.low, first.high);
    }

pub loop-s-preserved : goal.loop-s-preserved
loop-s-preserved c =
    let model = c.args.list.now.lookups.now.closed.model.now in
    let list = c.args.list.now.nodes.now in
    let so_far = c.loop-s.invariant in
    let next = c.least_behind.ensures in
    let least = c.min-least.ensures in
    record {
      least = below_more (λ s. (t : ℕ) → t ≤ length list
          → to_z w64 (of_z w64 c.min-least.result) ≤ℤ pair_increase model c.args.list.now.vehicle list c.args.pickup c.args.delivery s t) c.loop-s.s
          (λ s low t within. let before = so_far.least s low t within in
          omega (arith, ints, before, so_far.low, so_far.high, next.low, next.high, least.value, least.self_bound, least.other_bound))
          (λ t within. let here = next.least t within in
          omega (arith, ints, here, so_far.low, so_far.high, next.low, next.high, least.value, least.self_bound, least.other_bound));
      low = omega (arith, ints, int_min_is, so_far.low, so_far.high, next.low, next.high, least.value, least.self_bound, least.other_bound);
      high = omega (arith, ints, so_far.low, so_far.high, next.low, next.high, least.value, least.self_bound, least.other_bound);
    }

pub returns : goal.returns
returns c = λ s t s_low t_low. c.loop-s.invariant.least s (let end = c.loop-s-test.false in omega (arith, end, s_low)) t t_low
