use Rattle.std.proofs.Common.{◌≡◌, ◌∙◌, ◌+◌, ◌<◌, get_or, ap, sym, subst, arith, length, to_z, of_z, w64}
use Rattle.std.proofs.lemmas.Int.{ints}
use Rattle.std.specs.Prelude.{ℤ, pos}
use Rattle.vr_model.specs.tables.Numbers.{number_at}
use Rattle.vr_model.specs.tables.Tables.{row_of}
use Rattle.vr_model.specs.routes.Costs.{row_cost}
use Rattle.vr_plan.proofs.BoundLemmas.{read-cumul}
use Rattle.vr_plan.proofs.SoftLemmas.{soft-step, soft-end}
use Rattle.vr_plan.proofs.timings.soft_cost.Goals as goal

pub loop-k-preserved : goal.loop-k-preserved
loop-k-preserved c =
    let list = c.args.list.now in
    let cumuls = c.args.cumuls.now in
    let k = c.loop-k.k in
    let i = c.loop-k.invariant in
    let low = c.loop-k-test.true in
    let within : k + 1 < length cumuls = (let s = c.requires.stops in omega (arith, low, s)) in
    let x : ℤ = number_at cumuls (k + 1) in
    let step = soft-step (row_of c.args.dimension.now.nodes) (row_of c.args.dimension.now.ends c.args.v) list cumuls k low within in
    let r = c.row_cost-cost-in-loop-k.ensures in
    let value = r.value ∙ ap (λ o. row_cost o (to_z w64 (of_z w64 x))) c.row_of.ensures.value
    ∙ ap (row_cost (row_of c.args.dimension.now.nodes (get_or list k 0))) (read-cumul x (c.requires.range (k + 1) (pos 0) within)) in
    let is = c.loop-k.cost-is in
    let few = c.requires.few in
    record {
      sum = omega (arith, ints, i.sum, step, value, is, r.range.low, r.range.high, i.range.low, i.range.high, low, few);
      low = (let l = i.low in let m = r.low in omega (arith, ints, is, l, m, r.range.high, i.range.high, low, few));
      range = record {
        low = omega (arith, ints, is, r.range.low, r.range.high, i.range.low, i.range.high, low, few);
        high = omega (arith, ints, is, r.range.low, r.range.high, i.range.low, i.range.high, low, few);
      };
    }

pub returns-clause-value : goal.returns-clause-value
returns-clause-value c =
    let i = c.loop-k.invariant in
    let high = c.loop-k-test.false in
    let end = c.loop-k.auto.k-end in
    let within : c.loop-k.k + 1 < length c.args.cumuls.now = (let s = c.requires.stops in omega (arith, end, s)) in
    let same : c.loop-k.k ≡ length c.args.list.now = omega (arith, high, end) in
    let x : ℤ = number_at c.args.cumuls.now (length c.args.list.now + 1) in
    let step = soft-end (row_of c.args.dimension.now.nodes) (row_of c.args.dimension.now.ends c.args.v)
    c.args.list.now c.args.cumuls.now c.loop-k.k high within in
    let r = c.row_cost.ensures in
    let value = r.value ∙ ap (λ o. row_cost o (to_z w64 (of_z w64 x))) c.of_key-2.ensures.value ∙ ap (row_cost (row_of c.args.dimension.now.ends c.args.v))
    (read-cumul x (c.requires.range (length c.args.list.now + 1) (pos 0) (subst (λ n. n + 1 < length c.args.cumuls.now) same within))
    ∙ ap (λ n. number_at c.args.cumuls.now (n + 1)) (sym same)) in
    let is = c.loop-k.cost-is in
    let few = c.requires.few in
    omega (arith, ints, i.sum, step, value, is, r.range.low, r.range.high, i.range.low, i.range.high, end, few)

pub returns-clause-low : goal.returns-clause-low
returns-clause-low c =
    let i = c.loop-k.invariant in
    let r = c.row_cost.ensures in
    let is = c.loop-k.cost-is in
    let l = i.low in
    let m = r.low in
    let end = c.loop-k.auto.k-end in
    let few = c.requires.few in
    omega (arith, ints, is, l, m, r.range.high, i.range.high, end, few)
