use Rattle.std.proofs.Common.{◌≡◌, ◌∙◌, ap, arith}
use Rattle.std.proofs.lemmas.Int.{ints}
use Rattle.vr_model.specs.routes.Costs.{cost, sum_of}
use Rattle.vr_rules.proofs.TotalLemmas.{sum-is_cost}
use Rattle.vr_rules.proofs.rules.Rules.total.Goals as goal

pub returns-clause-value : goal.returns-clause-value
returns-clause-value c =
    let h = c.in_ok-parts.ensures.total in
    let value : c.total_cost.result ≡ cost c.args.self.now c.args.routes.now.lists = c.total_cost.ensures
    ∙ (ap sum_of c.in_ok-parts.ensures.parts ∙ sum-is_cost c.args.self.now c.args.routes.now.lists) in
    omega (arith, ints, value, c.total_cost.ensures, h.arcs, h.fixed, h.global, h.penalty, h.soft, h.span, h.sum)

pub returns-clause-least : goal.returns-clause-least
returns-clause-least c =
    let h = c.in_ok-parts.ensures.total in
    omega (arith, ints, c.total_cost.ensures, h.arcs, h.fixed, h.global, h.penalty, h.soft, h.span, h.sum)
