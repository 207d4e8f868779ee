use Rattle.std.proofs.Common.{◌≡◌, ◌∙◌, ap, sym, subst, arith, to_z, of_z, w64}
use Rattle.std.specs.Prelude.{ℤ, neg_ℤ, pos, ◌^◌, ◌+ℤ◌, ◌≤ℤ◌}
use Rattle.std.specs.Option.{option_copied}
use Rattle.std.proofs.lemmas.Int.{ints}
use Rattle.vr_model.specs.tables.Numbers.{horizon}
use Rattle.vr_model.specs.tables.Tables.{dimension_at, transit}
use Rattle.vr_model.specs.tables.WellFormed.{IsIn}
use Rattle.vr_model.specs.routes.Costs.{row_cost}
use Rattle.vr_plan.proofs.BoundLemmas.{read-cumul}
use Rattle.vr_costfilter.proofs.StageLemmas.{going-as, stuck-as}
use Rattle.vr_costfilter.proofs.guides.Guide.go_on.Goals as goal

-- a transit as it was read
arc-read : {r t : ℤ} → r ≡ t → neg_ℤ (pos (2 ^ 31)) ≤ℤ r → r ≤ℤ pos (2 ^ 31) → to_z w64 (of_z w64 r) ≡ t
arc-read {r} {t} same least greatest = omega (arith, ints, same, least, greatest)

pub returns-clause-value : goal.returns-clause-value
returns-clause-value c =
    let g = c.args.self.now in
    let h = c.args.self.now.sound in
    let stage = c.args.stage in
    let t = c.transit-transit.ensures in
    let x = c.in_ok-cumul.cumul in
    let read = read-cumul x c.in_ok-cumul.ensures.range in
    let costs = c.row_cost-cost.ensures in
    let sum : to_z w64 (of_z w64 (to_z w64 (of_z w64 stage.soft) +ℤ to_z w64 (of_z w64 c.row_cost-cost.result))) ≡ stage.soft +ℤ c.row_cost-cost.result =
    omega (arith, ints, costs.low, costs.range.high, c.requires.stage.not_negative, c.requires.stage.bound) in
    sym (going-as (transit g.model.now g.d g.v stage.at c.args.node)
    (dimension_at g.model.now g.d).slack_max c.args.node c.args.allowed (option_copied c.args.row) stage
    (to_z w64 (of_z w64 stage.cumul)) (to_z w64 (of_z w64 c.transit-transit.result)) (to_z w64 (of_z w64 g.slack)) x
    (read-cumul stage.cumul c.requires.stage.cumul) (arc-read t.value t.least t.greatest) (read-cumul g.slack h.slack_range ∙ h.slack_is)
    c.in_ok-cumul.ensures.exact (to_z w64 (of_z w64 x))
    (to_z w64 (of_z w64 (to_z w64 (of_z w64 stage.soft) +ℤ to_z w64 (of_z w64 c.row_cost-cost.result)))) read
    (sum ∙ ap (λ y. stage.soft +ℤ y) (costs.value ∙ ap (row_cost (option_copied c.args.row)) read)))

pub returns-in_err-cumul-clause-value : goal.returns-in_err-cumul-clause-value
returns-in_err-cumul-clause-value c =
    let g = c.args.self.now in
    let h = c.args.self.now.sound in
    let stage = c.args.stage in
    let t = c.transit-transit.ensures in
    c.from_residual.ensures ∙ sym (stuck-as (transit g.model.now g.d g.v stage.at c.args.node)
    (dimension_at g.model.now g.d).slack_max c.args.node c.args.allowed (option_copied c.args.row) stage
    (to_z w64 (of_z w64 stage.cumul)) (to_z w64 (of_z w64 c.transit-transit.result)) (to_z w64 (of_z w64 g.slack))
    (read-cumul stage.cumul c.requires.stage.cumul) (arc-read t.value t.least t.greatest) (read-cumul g.slack h.slack_range ∙ h.slack_is)
    (sym c.in_err-cumul.ensures.known))

pub returns-clause-range : goal.returns-clause-range
returns-clause-range c n h =
    let x = c.in_ok-cumul.cumul in
    let costs = c.row_cost-cost.ensures in
    record {
      at = c.requires.stop.known;
      cumul = subst (IsIn (pos 0) horizon) (sym (read-cumul x c.in_ok-cumul.ensures.range)) c.in_ok-cumul.ensures.range;
      not_negative = omega (arith, ints, costs.low, costs.range.high, c.requires.stage.not_negative, c.requires.stage.bound);
      bound = omega (arith, ints, costs.low, costs.range.high, c.requires.stage.not_negative, c.requires.stage.bound, h.bound);
    }
