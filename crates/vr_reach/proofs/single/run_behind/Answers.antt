use Rattle.std.proofs.Common.{◌≡◌, ◌∙◌, ◌+ℤ◌, to_z, of_z, w64, ap₂, arith}
use Rattle.std.specs.Int.{int_min}
use Rattle.std.proofs.lemmas.Int.{ints, clamps}
use Rattle.vr_reach.proofs.SingleLemmas.{as_is}
use Rattle.vr_reach.proofs.single.run_behind.Goals as goal

pub overflow_add-run-2 : goal.overflow_add-run-2
overflow_add-run-2 c =
    let run = c.requires.run in
    let slack = c.requires.slack in
    omega (arith, ints, run.least, run.in_order, run.greatest, slack.at_least, slack.at_most, c.requires.least, c.requires.greatest)

pub returns-clause-lo : goal.returns-clause-lo
returns-clause-lo c =
    let run = c.requires.run in
    let allowed = c.requires.allowed.lo in
    omega (
      arith,
      ints,
      clamps,
      run.least,
      run.in_order,
      run.greatest,
      c.requires.least,
      c.requires.greatest,
      allowed.at_least,
      allowed.at_most,
      c.max.ensures.value,
    )

pub returns-clause-hi : goal.returns-clause-hi
returns-clause-hi c =
    let run = c.requires.run in
    let slack = c.requires.slack in
    let bound = c.requires.allowed.hi in
    let least = c.requires.least in
    let greatest = c.requires.greatest in
    let hi = as_is c.args.run.hi (omega (arith, ints, run.least, run.in_order)) (omega (arith, ints, run.greatest)) in
    let t = as_is c.args.transit (omega (arith, ints, least)) (omega (arith, ints, greatest)) in
    let s = as_is c.args.slack (omega (arith, ints, slack.at_least)) (omega (arith, ints, slack.at_most)) in
    let way = ap₂ (λ a b. to_z w64 (of_z w64 (a +ℤ b))) t s
    ∙ as_is (c.args.transit +ℤ c.args.slack) (omega (arith, ints, least, slack.at_least)) (omega (arith, ints, greatest, slack.at_most)) in
    let sum = ap₂ (λ a b. to_z w64 (of_z w64 (a +ℤ b))) hi way ∙ as_is (c.args.run.hi +ℤ (c.args.transit +ℤ c.args.slack))
    (omega (arith, ints, run.least, run.in_order, least, slack.at_least)) (omega (arith, ints, run.greatest, greatest, slack.at_most)) in
    let limit = as_is c.args.allowed.hi (omega (arith, ints, bound.at_least)) (omega (arith, ints, bound.at_most)) in
    let value = c.min.ensures.value ∙ ap₂ int_min sum limit in
    let read : to_z w64 (of_z w64 c.min.result) ≡ c.min.result = omega
    (arith, ints, clamps, value, run.least, run.in_order, run.greatest, least, greatest, slack.at_least, slack.at_most, bound.at_least, bound.at_most) in
    read ∙ value
