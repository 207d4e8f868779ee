use Rattle.std.proofs.Common.{◌+◌, cond, refl, arith}
use Rattle.std.specs.Prelude.{◌==◌}
use Rattle.vr_strings.proofs.ListCounts.{counts_all, counts_more}
use Rattle.vr_ruin.proofs.beginning.count_active.Goals as goal

pub overflow_add-active : goal.overflow_add-active
overflow_add-active c =
    let few = c.loop-v.invariant.1.active_few in
    omega (arith, few, c.len-active.ensures.few, c.loop-v-test.true, c.vehicles-v-end.ensures.few)

pub loop-v-init : goal.loop-v-init
loop-v-init c = (0, record { active_is = refl; used_is = refl; active_few = omega arith; used_few = omega arith }, omega arith)

pub loop-v-preserved : goal.loop-v-preserved
loop-v-preserved c =
    let used = c.loop-v.invariant.0 in
    let more = cond (c.len-active.result == 0) used (used + 1) in (
      more,
      counts_more c.args.routes.now.lists c.loop-v.v c.loop-v.active used c.len-active.result (c.loop-v.active + c.len-active.result) more
          c.loop-v.invariant.1 (omega (arith, c.loop-v-test.true, c.vehicles-v-end.ensures.value))
          c.len-active.ensures.value c.len-active.ensures.few refl refl,
      omega (arith, c.loop-v-test.true, c.vehicles-v-end.ensures.value),
    )

pub returns-clause-value : goal.returns-clause-value
returns-clause-value c = (counts_all c.args.routes.now.lists c.loop-v.v c.loop-v.active c.loop-v.invariant.0
    c.loop-v.invariant.1 (omega (arith, c.loop-v-test.false, c.vehicles-v-end.ensures.value, c.loop-v.invariant.2))).0

pub returns-clause-few : goal.returns-clause-few
returns-clause-few c =
    let few = c.loop-v.invariant.1.active_few in
    omega (arith, few, c.loop-v.invariant.2, c.vehicles-v-end.ensures.value, c.vehicles-v-end.ensures.few)
