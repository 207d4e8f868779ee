use Rattle.std.proofs.Common.{◌≡◌, ◌+◌, suc, pos, to_z, of_z, w64, ◌-ℤ◌, ap, ◌∙◌, arith}
use Rattle.std.specs.Prelude.{slice_index_or}
use Rattle.std.proofs.lemmas.Int.{ints}
use Rattle.std.proofs.lemmas.List.{length-append}
use Rattle.vr_model.specs.tables.Numbers.{number_at}
use Rattle.vr_plan.specs.Plans.{no_hop}
use Rattle.vr_plan.proofs.SlackLemmas.{slacks_more}
use Rattle.vr_plan.proofs.plans.slacks_left.Goals as goal

pub overflow_sub-cumuls-in-loop-k : goal.overflow_sub-cumuls-in-loop-k
overflow_sub-cumuls-in-loop-k c =
    let k = c.loop-k.k in
    let there = c.requires.range (k + 1) (pos 0) (omega (arith, c.requires.stops)) in
    let here = c.requires.range k (pos 0) (omega (arith, c.requires.stops)) in
    let hop = c.requires.hops k no_hop (omega arith) in
    let inner : to_z w64
    (of_z w64 (to_z w64 (of_z w64 (slice_index_or c.args.cumuls.now (k + 1) (pos 0))) -ℤ to_z w64 (of_z w64 (slice_index_or c.args.cumuls.now k (pos 0)))))
    ≡ slice_index_or c.args.cumuls.now (k + 1) (pos 0) -ℤ slice_index_or c.args.cumuls.now k (pos 0) =
    omega (arith, ints, there, here) in
    omega (arith, ints, inner, there, here, hop.transit)

pub loop-k-preserved : goal.loop-k-preserved
loop-k-preserved c =
    let k = c.loop-k.k in
    let m = c.loop-k.invariant in
    let next : k + 1 ≡ suc k = omega arith in
    let there = c.requires.range (k + 1) (pos 0) (omega (arith, c.requires.stops)) in
    let here = c.requires.range k (pos 0) (omega (arith, c.requires.stops)) in
    let hop = c.requires.hops k no_hop (omega arith) in
    let inner : to_z w64
    (of_z w64 (to_z w64 (of_z w64 (slice_index_or c.args.cumuls.now (k + 1) (pos 0))) -ℤ to_z w64 (of_z w64 (slice_index_or c.args.cumuls.now k (pos 0)))))
    ≡ slice_index_or c.args.cumuls.now (k + 1) (pos 0) -ℤ slice_index_or c.args.cumuls.now k (pos 0) =
    omega (arith, ints, there, here) in
    let at = ap (number_at c.args.cumuls.now) next in
    rw c.in_ok-push.ensures.ok (record {
      long = length-append c.loop-k.slacks _ ∙ ap (λ n. n + 1) m.long;
      left = slacks_more c.args.hops.now c.args.cumuls.now c.loop-k.slacks k _ m.long m.left (omega (arith, ints, inner, there, here, hop.transit, at));
    })
