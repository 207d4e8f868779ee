use Rattle.std.proofs.Common.{◌≡◌, ◌∙◌, ◌*◌, ◌^◌, ap, ap₂, arith, w64, to_z, of_z}
use Rattle.std.specs.Int.{w128}
use Rattle.std.specs.Prelude.{pos, ◌+ℤ◌, ◌*ℤ◌, int_lt}
use Rattle.std.proofs.lemmas.Int.{ints}
use Rattle.vr_guided.proofs.GuideLemmas.{at_least, at_most}
use Rattle.vr_guided.proofs.guiding.Guiding.gains.Goals as goal

pub overflow_add-result : goal.overflow_add-result
overflow_add-result c =
    let low = at_least (1000 * 2 ^ 100) c.scaled-costs.result c.scaled-costs.ensures.bound in
    let high = at_most (1000 * 2 ^ 100) c.scaled-costs.result c.scaled-costs.ensures.bound in
    let low_2 = at_least (1000 * 2 ^ 100) c.scaled.result c.scaled.ensures.bound in
    let high_2 = at_most (1000 * 2 ^ 100) c.scaled.result c.scaled.ensures.bound in
    omega (arith, ints, low, high, low_2, high_2)

pub returns : goal.returns
returns c =
    let low = at_least (1000 * 2 ^ 100) c.scaled-costs.result c.scaled-costs.ensures.bound in
    let high = at_most (1000 * 2 ^ 100) c.scaled-costs.result c.scaled-costs.ensures.bound in
    let low_2 = at_least (1000 * 2 ^ 100) c.scaled.result c.scaled.ensures.bound in
    let high_2 = at_most (1000 * 2 ^ 100) c.scaled.result c.scaled.ensures.bound in
    let sum : to_z w128 (of_z w128 (to_z w128 (of_z w128 c.scaled-costs.result) +ℤ to_z w128 (of_z w128 c.scaled.result)))
    ≡ c.scaled-costs.result +ℤ c.scaled.result = omega (arith, ints, low, high, low_2, high_2) in
    let s = c.args.self.now.sound in
    let q_from = s.q_in_range.at_least in
    let q_to = s.q_in_range.at_most in
    let p_from = s.p_in_range.at_least in
    let p_to = s.p_in_range.at_most in
    let range = c.ranges.difference in
    let q_same : to_z w64 (of_z w64 c.args.self.now.lambda.q) ≡ c.args.self.now.lambda.q = omega (arith, ints, q_from, q_to) in
    let p_same : to_z w64 (of_z w64 c.args.self.now.lambda.p) ≡ c.args.self.now.lambda.p = omega (arith, ints, p_from, p_to) in
    let d_same : to_z w128 (of_z w128 (to_z w64 (of_z w64 c.args.difference))) ≡ c.args.difference = omega (arith, ints, range) in
    let least = at_least (2 ^ 100) c.args.change c.requires.change in
    let most = at_most (2 ^ 100) c.args.change c.requires.change in
    let c_same : to_z w128 (of_z w128 c.args.change) ≡ c.args.change = omega (arith, ints, least, most) in
    let costs : c.scaled-costs.result ≡ c.args.self.now.lambda.q *ℤ c.args.difference = c.scaled-costs.ensures.value ∙ ap₂ (λ x y. x *ℤ y) q_same d_same in
    let change : c.scaled.result ≡ c.args.self.now.lambda.p *ℤ c.args.change = c.scaled.ensures.value ∙ ap₂ (λ x y. x *ℤ y) p_same c_same in
    ap (λ z. int_lt z (pos 0)) (sum ∙ ap₂ (λ x y. x +ℤ y) costs change)
