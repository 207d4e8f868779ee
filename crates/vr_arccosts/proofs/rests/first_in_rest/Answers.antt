use Rattle.std.proofs.Common.{◌≡◌, ℕ, List, w64, to_z, of_z, subst, arith}
use Rattle.std.proofs.lemmas.Int.{ints}
use Rattle.std.specs.Prelude.{ℤ, ◌+ℤ◌, ◌≤ℤ◌}
use Rattle.vr_routes.specs.Pairs.{without_two}
use Rattle.vr_arccosts.specs.Runs.{pair_added}
use Rattle.vr_arccosts.proofs.RunLemmas.{one-more}
use Rattle.vr_arccosts.proofs.rests.first_in_rest.Goals as goal

pub loop-t-preserved : goal.loop-t-preserved
loop-t-preserved c =
    let rest : List ℕ = without_two c.args.rest.now.list.now c.args.rest.now.lo c.args.rest.now.hi in
    let added : ℕ → ℤ = pair_added c.args.rest.now.costs.model.now c.args.rest.now.costs.vehicle rest c.args.pair c.args.s in
    let base = c.requires.base in
    let put = c.put_pair.ensures in
    one-more (λ t. c.args.asked.bound ≤ℤ (to_z w64 (of_z w64 c.args.base) +ℤ added t)) c.args.asked.from c.loop-t.t c.loop-t.invariant
    (let no = c.if-base-put_pair.false in omega (arith, ints, put.value, put.range.low, put.range.high, base.low, base.high, no))

pub returns-then-base-put_pair-clause-no_less : goal.returns-then-base-put_pair-clause-no_less
returns-then-base-put_pair-clause-no_less c t low high =
    let rest : List ℕ = without_two c.args.rest.now.list.now c.args.rest.now.lo c.args.rest.now.hi in
    let added : ℕ → ℤ = pair_added c.args.rest.now.costs.model.now c.args.rest.now.costs.vehicle rest c.args.pair c.args.s in
    let base = c.requires.base in
    let is : to_z w64 (of_z w64 c.args.base) ≡ c.args.base = omega (arith, ints, base.low, base.high) in
    subst (λ b. c.args.asked.bound ≤ℤ (b +ℤ added t)) is (c.loop-t.invariant t low high)

pub returns-clause-no_less : goal.returns-clause-no_less
returns-clause-no_less c t low high =
    let rest : List ℕ = without_two c.args.rest.now.list.now c.args.rest.now.lo c.args.rest.now.hi in
    let added : ℕ → ℤ = pair_added c.args.rest.now.costs.model.now c.args.rest.now.costs.vehicle rest c.args.pair c.args.s in
    let base = c.requires.base in
    let is : to_z w64 (of_z w64 c.args.base) ≡ c.args.base = omega (arith, ints, base.low, base.high) in
    let past = c.loop-t-test.false in
    subst (λ b. c.args.asked.bound ≤ℤ (b +ℤ added t)) is (c.loop-t.invariant t low (omega (arith, high, past)))
