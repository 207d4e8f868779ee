use Rattle.std.proofs.Common.{◌≡◌, ℕ, List, inl, inr, arith, subst}
use Rattle.std.proofs.lemmas.Int.{ints}
use Rattle.std.proofs.lemmas.Bool.{cases_lt}
use Rattle.std.specs.Prelude.{◌+ℤ◌, ◌≤ℤ◌}
use Rattle.vr_arccosts.specs.Runs.{pair_added}
use Rattle.vr_arccosts.proofs.gaps.first_delivery.Goals as goal

pub returns-clause-no_less : goal.returns-clause-no_less
returns-clause-no_less c t low high =
    let model = c.args.line.now.costs.model.now in
    let v = c.args.line.now.costs.vehicle in
    let list : List ℕ = c.args.line.now.list.now in
    let base = c.requires.base in
    elim (cases_lt c.args.s t) [
      | inl behind ↦ (
          let next = c.starting-behind.ensures in
          let from = next.from in
          let bound = next.bound in
          let least = c.first_apart-2.ensures.no_less t (omega (arith, behind, from)) high in
          omega (arith, ints, least, bound, base.low, base.high))
      | inr here ↦ (
          let put = c.put_pair.ensures in
          let no = c.if-base-put_pair.false in
          let order = c.requires.order in
          let same : c.args.s ≡ t = omega (arith, order, low, here) in
          subst (λ t. c.args.asked.bound ≤ℤ (c.args.base +ℤ pair_added model v list c.args.pair c.args.s t)) same
          (omega (arith, ints, put.value, put.range.low, put.range.high, base.low, base.high, no)))
    ]
