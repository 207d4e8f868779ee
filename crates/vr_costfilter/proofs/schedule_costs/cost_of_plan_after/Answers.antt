use Rattle.std.proofs.Common.{◌≡◌, ◌∙◌, ◌+◌, ℕ, List, length, ap, subst, arith}
use Rattle.std.proofs.lemmas.Int.{ints}
use Rattle.std.specs.Prelude.{◌+ℤ◌, ◌-ℤ◌, ◌*ℤ◌, IfOk}
use Rattle.vr_model.specs.tables.Numbers.{number_at}
use Rattle.vr_model.specs.tables.Tables.{dimension_at}
use Rattle.vr_routes.specs.Pieces.{joined, part_at}
use Rattle.vr_plan.specs.Timings.{last_with, chosen_plan_of, soft_with, span_with, start_with}
use Rattle.vr_plan.proofs.ExtentLemmas.{times-none}
use Rattle.vr_costfilter.specs.PartsAfter.{list_after}
use Rattle.vr_costfilter.proofs.PartLemmas.{list-of-part}
use Rattle.vr_costfilter.proofs.ScheduleLemmas.{timed-cost, timing-more}
use Rattle.vr_costfilter.proofs.KnownLemmas.{tour-of}
use Rattle.vr_costfilter.proofs.schedule_costs.cost_of_plan_after.Goals as goal

pub returns-then-table-clause-value : goal.returns-then-table-clause-value
returns-then-table-clause-value c =
    let model = c.args.part.now.model.now in
    let d = c.args.d in
    let part = part_at c.args.part.now.change.now c.args.part.now.k in
    let v = part.vehicle in
    let list : List ℕ = joined c.args.part.now.routes.now.lists part.pieces in
    let nothing = c.requires.known.told.free c.if-table.true v list in
    let soft = nothing.soft (chosen_plan_of model d v list).cumuls in
    let span = times-none (number_at (dimension_at model d).span_costs v) (last_with model d v list -ℤ start_with model d v list) nothing.span in
    omega (arith, ints, soft, span)

pub cost_of_timing-requires-clause-timing : goal.cost_of_timing-requires-clause-timing
cost_of_timing-requires-clause-timing c =
    let part = c.args.part.now in
    let few = (list-of-part part).few in
    timing-more c.in-Some.timing (length (list_after part) + 2) 1002 (omega (arith, few)) c.in-Some.ensures.range

pub invariant_of-tour : goal.invariant_of-tour
invariant_of-tour c =
    let part = c.args.part.now in
    record {
      sound = tour-of part.model.now c.vehicle-v.result (list_after part) c.vehicle-v.ensures.known
          (list-of-part part) c.as_slice.result.now (c.as_slice.ensures.value ∙ c.write.ensures.list);
    }

pub returns-in-Some-clause-value : goal.returns-in-Some-clause-value
returns-in-Some-clause-value c =
    let m = c.args.part.now.model.now in
    let part = part_at c.args.part.now.change.now c.args.part.now.k in
    let timing = c.in-Some.timing in
    timed-cost m c.args.d part.vehicle (joined c.args.part.now.routes.now.lists part.pieces) timing c.in-Some.ensures.timing c.cost_of_timing.result
    (c.cost_of_timing.ensures.value
    ∙ ap (λ w. timing.soft +ℤ (number_at (dimension_at m c.args.d).span_costs w *ℤ (timing.last -ℤ timing.start))) c.vehicle-v.ensures.value)
    c.cost_of_timing.ensures.range

pub returns-clause-value : goal.returns-clause-value
returns-clause-value c =
    let m = c.args.part.now.model.now in
    let d = c.args.d in
    let list = list_after c.args.part.now in
    let found = c.cost_of_plan.result in
    subst (λ v. IfOk found (λ cost. cost ≡ soft_with m d v list +ℤ span_with m d v list)) c.vehicle-v.ensures.value
    (subst (λ l. IfOk found (λ cost. cost ≡ soft_with m d c.vehicle-v.result l +ℤ span_with m d c.vehicle-v.result l))
    (c.as_slice.ensures.value ∙ c.write.ensures.list) c.cost_of_plan.ensures.value)
