use Rattle.std.proofs.Common.{◌≡◌, ◌<◌, ◌+◌, suc, ◌&&◌, length, to_z, of_z, w64, ◌∙◌, sym, subst, arith}
use Rattle.std.specs.Prelude.{int_le, ◌+ℤ◌, ◌-ℤ◌, pos, slice_index_or}
use Rattle.std.proofs.lemmas.Int.{ints}
use Rattle.vr_plan.specs.Plans.{no_hop}
use Rattle.vr_plan.specs.Narrow.{may_stand}
use Rattle.vr_plan.proofs.StartChoice.{inside_arc}
use Rattle.vr_plan.proofs.starts.may_stand.Goals as goal

pub returns-then-k-hops : goal.returns-then-k-hops
returns-then-k-hops c =
    let q = c.requires in
    let k = c.in-Some.k in
    let hops = c.args.hops.now in
    let cumuls = c.args.cumuls.now in
    let at : c.args.place ≡ suc c.in-Some.k = omega arith in
    let under : c.in-Some.k < length c.args.hops.now = omega (arith, c.if-k-hops.true) in
    let here = q.range k (pos 0) (omega (arith, under, q.stops)) in
    let next = q.range (k + 1) (pos 0) (omega (arith, under, q.stops)) in
    let first : to_z w64 (of_z w64 c.args.first) ≡ c.args.first = omega (arith, ints, q.first) in
    let long : to_z w64 (of_z w64 c.args.long) ≡ c.args.long = omega (arith, ints, q.long) in
    let from : to_z w64 (of_z w64 (slice_index_or c.args.cumuls.now c.in-Some.k (pos 0))) ≡ slice_index_or c.args.cumuls.now c.in-Some.k (pos 0) =
    omega (arith, ints, here) in
    let to : to_z w64 (of_z w64 (slice_index_or c.args.cumuls.now (c.in-Some.k + 1) (pos 0))) ≡ slice_index_or c.args.cumuls.now (c.in-Some.k + 1) (pos 0) =
    omega (arith, ints, next) in
    subst (λ p. c.fits_arc.result ≡ may_stand hops cumuls c.args.long c.args.first p) (sym at)
    (c.fits_arc.ensures
    ∙ (λ i. int_le (first i +ℤ long i) (to i) && int_le (from i +ℤ (slice_index_or hops k no_hop).transit) (to i -ℤ long i))
    ∙ inside_arc hops cumuls c.args.long c.args.first k under)
