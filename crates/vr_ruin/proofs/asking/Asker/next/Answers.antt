use Rattle.std.proofs.Common.{◌≡◌, arith, of_z, rules, subst, sym, to_z, w64}
use Rattle.std.specs.Prelude.{◌<ℤ◌}
use Rattle.vr_ruin.specs.Increases.{visit_increase}
use Rattle.vr_ruin.specs.Placings.{IsAbove}
use Rattle.vr_ruin.proofs.asking.Asker.next.Goals as goal

pub returns-in-None-clause-above : goal.returns-in-None-clause-above
returns-in-None-clause-above c = λ u low high. absurd (omega (arith, low, high))

pub returns-in-Some-clause-above : goal.returns-in-Some-clause-above
returns-in-Some-clause-above c = λ u low high.
    let more = c.next_below.ensures.above u low high in
    let read : to_z w64 (of_z w64 c.in-Some.bound) ≡ c.in-Some.bound = search rules in
    subst (λ b. IsAbove b (visit_increase c.args.self.now c.args.list.vehicle c.args.list.nodes.now c.args.node u)) (sym c.in-Some.is)
    (subst (λ b. b <ℤ visit_increase c.args.self.now c.args.list.vehicle c.args.list.nodes.now c.args.node u) read more)
