use Rattle.std.proofs.Common.{ℕ, arith}
use Rattle.std.proofs.lemmas.Int.{ints}
use Rattle.std.specs.Prelude.{ℤ, ◌≤ℤ◌}
use Rattle.vr_arccosts.specs.Runs.{fronts_added}
use Rattle.vr_arccosts.proofs.RunLemmas.{one-more}
use Rattle.vr_arccosts.proofs.fronts.first_front.Goals as goal

pub returns-clause-no_less : goal.returns-clause-no_less
returns-clause-no_less c b low high = let past = c.loop-b-test.false in c.loop-b.invariant.no_less b low (omega (arith, high, past))

pub loop-b-preserved : goal.loop-b-preserved
loop-b-preserved c =
    let more : ℕ → ℤ = fronts_added c.args.line.now.costs.model.now c.args.line.now.costs.vehicle
    c.args.line.now.list.now c.args.other.now.costs.vehicle c.args.other.now.list.now c.args.a in
    let i = c.loop-b.invariant in
    let here = c.added.ensures in
    let next = c.inner_behind-inner.ensures in
    record {
      no_less = one-more (λ b. c.args.asked.bound ≤ℤ more b) c.args.asked.from c.loop-b.b i.no_less
          (let no = c.if-added-asked.false in omega (arith, ints, here.value, here.range.low, here.range.high, no));
      inner = omega (arith, ints, next.value, next.range.low, next.range.high);
      range = record { low = omega (arith, ints, next.range.low, next.range.high); high = omega (arith, ints, next.range.low, next.range.high) };
    }
