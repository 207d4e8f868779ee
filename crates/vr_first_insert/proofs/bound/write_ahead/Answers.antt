use Rattle.std.proofs.Common.{◌≡◌, ◌∙◌, ◌+◌, ◌≤◌, ◌≤ℤ◌, ◌^◌, ◌∷◌, [], ℕ, ℤ, pos, ap, sym, subst, arith, length, length-append, to_z, of_z, w64}
use Rattle.std.proofs.lemmas.Int.{ints, int_min_is}
use Rattle.std.specs.Prelude.{neg_ℤ}
use Rattle.vr_reach.proofs.Tables.{each_push}
use Rattle.vr_first_insert.specs.Placings.{IsLeastAhead}
use Rattle.vr_first_insert.proofs.BoundLemmas.{added-more, added-on, ahead-more, min-one-of}
use Rattle.vr_first_insert.proofs.bound.write_ahead.Goals as goal

pub loop-k-preserved : goal.loop-k-preserved
loop-k-preserved c =
    let model = c.args.list.now.lookups.now.closed.model.now in
    let list = c.args.list.now.nodes.now in
    let v : ℕ = c.args.list.now.vehicle in
    let node : ℕ = c.args.node in
    let k : ℕ = c.loop-k.k in
    let so_far = c.loop-k.invariant in
    let next = c.visit_increase.ensures in
    let least = c.min-least.ensures in
    let x : ℤ = to_z w64 (of_z w64 c.min-least.result) in
    let old : ℤ = to_z w64 c.loop-k.least-bits in
    let here : ℤ = c.visit_increase.result in
    let within : k ≤ length list = omega arith in
    let low_one : x ≤ℤ old = omega (arith, ints, so_far.low, so_far.high, next.low, next.high, least.value, least.self_bound, least.other_bound) in
    let low_two : x ≤ℤ here = omega (arith, ints, so_far.low, so_far.high, next.low, next.high, least.value, least.self_bound, least.other_bound) in
    let low : neg_ℤ (pos (2 ^ 40)) ≤ℤ x =
    omega (arith, ints, int_min_is, so_far.low, so_far.high, next.low, next.high, least.value, least.self_bound, least.other_bound) in
    let high : x ≤ℤ pos (2 ^ 41) = omega (arith, ints, so_far.low, so_far.high, next.low, next.high, least.value, least.self_bound, least.other_bound) in
    let more = ahead-more model v list node k old here x within low_one low_two next.value so_far.least in
    let fits : x ≡ c.min-least.result =
    omega (arith, ints, low, high, so_far.low, so_far.high, next.low, next.high, least.value, least.self_bound, least.other_bound) in
    let fits_too : to_z w64 (of_z w64 here) ≡ here = omega (arith, ints, next.low, next.high) in
    let one = min-one-of old here x c.min-least.result (to_z w64 (of_z w64 here)) fits fits_too least.value in
    let added = added-more model v list node k old here x within one next.value so_far.added in
    let P = λ (k : ℕ) (y : ℤ). IsLeastAhead model v list node k y in
    let is : P k x = record { behind = more; added = added; low = low; high = high } in
    record {
      least = λ t from within. more t (omega (arith, from)) within;
      added = added-on model v list node k x added;
      low = low;
      high = high;
      long = ap length c.in_ok-push.ensures.ok ∙ length-append c.loop-k.ahead (x ∷ []) ∙ ap (λ n. n + 1) so_far.long;
      each = rw c.in_ok-push.ensures.ok (λ k d low. each_push P c.loop-k.ahead x so_far.each (subst (λ n. P n x) (sym so_far.long) is) k d low);
    }
