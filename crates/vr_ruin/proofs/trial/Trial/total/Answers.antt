use Rattle.std.proofs.Common.{◌≡◌, ◌∙◌, ap, arith}
use Rattle.std.proofs.lemmas.Int.{ints}
use Rattle.vr_model.specs.routes.Costs.{assigned, cost, parts_at, sum_of}
use Rattle.vr_rules.proofs.TotalLemmas.{sum-is_cost}
use Rattle.vr_ruin.proofs.trial.Trial.total.Goals as goal

pub returns-clause-value : goal.returns-clause-value
returns-clause-value c =
    let model = c.args.self.now.model in
    let lists = c.args.self.now.lists in
    let value : c.total_of.result ≡ cost model lists =
    c.total_of.ensures.value ∙ ap sum_of c.in_ok-parts.ensures.parts
    ∙ ap (λ t. sum_of (parts_at t.model (assigned t.model t.lists))) c.self.view_is ∙ sum-is_cost model lists in
    omega (arith, ints, value, c.total_of.ensures.range.low, c.total_of.ensures.range.high)
