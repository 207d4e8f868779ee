use Rattle.std.proofs.Common.{◌∙◌, ◌+◌, arith, length, sym}
use Rattle.std.proofs.lemmas.Int.{ints}
use Rattle.std.specs.Prelude.{◌-ℤ◌}
use Rattle.vr_model.specs.tables.Numbers.{number_at}
use Rattle.vr_model.specs.tables.Tables.{dimension_at}
use Rattle.vr_plan.specs.Timings.{last_with, chosen_plan_of, start_with}
use Rattle.vr_plan.proofs.ExtentLemmas.{times-none}
use Rattle.vr_plan.proofs.PayingLemmas.{pays_nothing_where}
use Rattle.vr_costfilter.proofs.ScheduleLemmas.{timed-cost, timing-more}
use Rattle.vr_costfilter.proofs.schedule_costs.cost_of_plan.Goals as goal

pub returns-then-not-may_pay_alone-clause-value : goal.returns-then-not-may_pay_alone-clause-value
returns-then-not-may_pay_alone-clause-value c =
    let model = c.args.tour.now.closed.model.now in
    let d = c.args.d in
    let v = c.args.tour.now.v in
    let list = c.args.tour.now.list.now in
    let nothing = pays_nothing_where (dimension_at model d) v list (sym c.may_pay_alone.ensures ∙ c.if-not-may_pay_alone.true) in
    let soft = nothing.soft (chosen_plan_of model d v list).cumuls in
    let span = times-none (number_at (dimension_at model d).span_costs v) (last_with model d v list -ℤ start_with model d v list) nothing.span in
    omega (arith, ints, soft, span)

pub cost_of_timing-requires-clause-timing : goal.cost_of_timing-requires-clause-timing
cost_of_timing-requires-clause-timing c =
    let few = c.args.tour.now.sound.few in
    timing-more c.in_ok-timing.timing (length c.args.tour.now.list.now + 2) 1002 (omega (arith, few)) c.in_ok-timing.ensures.range

pub returns-clause-value : goal.returns-clause-value
returns-clause-value c = timed-cost c.args.tour.now.closed.model.now c.args.d c.args.tour.now.v c.args.tour.now.list.now
    c.in_ok-timing.timing c.in_ok-timing.ensures.timing c.cost_of_timing.result c.cost_of_timing.ensures.value c.cost_of_timing.ensures.range
