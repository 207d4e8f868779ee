use Rattle.std.proofs.Common.{◌≡◌, ◌∙◌, ap, arith}
use Rattle.std.proofs.lemmas.Int.{ints}
use Rattle.std.specs.Prelude.{◌-ℤ◌}
use Rattle.vr_model.specs.routes.Costs.{assigned, parts_at, penalty_part, sum_of}
use Rattle.vr_rules.proofs.TotalLemmas.{sum-is_cost}
use Rattle.vr_ruin.specs.Offers.{paid_cost}
use Rattle.vr_ruin.proofs.trial.Trial.paid_by_schedules.Goals as goal

pub returns-clause-value : goal.returns-clause-value
returns-clause-value c =
    let model = c.args.self.now.model in
    let lists = c.args.self.now.lists in
    let value : c.paid_of.result ≡ paid_cost model lists =
    c.paid_of.ensures.value ∙ ap (λ parts. sum_of parts -ℤ parts.penalty) c.in_ok-parts.ensures.parts
    ∙ ap (λ t. sum_of (parts_at t.model (assigned t.model t.lists)) -ℤ penalty_part t.model t.lists) c.self.view_is
    ∙ ap (λ x. x -ℤ penalty_part model lists) (sum-is_cost model lists) in
    omega (arith, ints, value, c.paid_of.ensures.range.low, c.paid_of.ensures.range.high)
