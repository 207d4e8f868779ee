use Rattle.std.proofs.Common.{arith, refl}
use Rattle.std.proofs.lemmas.Int.{ints}
use Rattle.vr_judge.proofs.SumLemmas.{are_read}
use Rattle.vr_judge.proofs.costs.sum.Goals as goal

pub overflow_add-result-3 : goal.overflow_add-result-3
overflow_add-result-3 c =
    let h = c.requires in
    let r = are_read _ _ _ _ _ h in
    rw (r.arcs_are, r.fixed_are, r.groups_are, r.plans_are, r.two, r.three)
    (omega (
      arith,
      ints,
      h.arcs_are.low,
      h.arcs_are.high,
      h.fixed_are.low,
      h.fixed_are.high,
      h.groups_are.low,
      h.groups_are.high,
      h.plans_are.low,
      h.plans_are.high,
    ))

pub overflow_add-result-4 : goal.overflow_add-result-4
overflow_add-result-4 c =
    let h = c.requires in
    let r = are_read _ _ _ _ _ h in
    rw (r.arcs_are, r.fixed_are, r.groups_are, r.plans_are, r.spans_are, r.two, r.three, r.four)
    (omega (
      arith,
      ints,
      h.arcs_are.low,
      h.arcs_are.high,
      h.fixed_are.low,
      h.fixed_are.high,
      h.groups_are.low,
      h.groups_are.high,
      h.plans_are.low,
      h.plans_are.high,
      h.spans_are.low,
      h.spans_are.high,
    ))

pub returns : goal.returns
returns c =
    let r = are_read _ _ _ _ _ c.requires in
    rw (r.arcs_are, r.fixed_are, r.groups_are, r.plans_are, r.spans_are, r.two, r.three, r.four, r.five) refl
