use Rattle.std.proofs.Common.{arith}
use Rattle.std.proofs.lemmas.Int.{ints}
use Rattle.vr_costfilter.specs.PartsAfter.{list_after, vehicle_after}
use Rattle.vr_costfilter.proofs.KnownLemmas.{known-at}
use Rattle.vr_costfilter.proofs.PlanLemmas.{cost-in-all, cost-in-more}
use Rattle.vr_costfilter.proofs.schedule_costs.cost_of_part.Goals as goal

pub cost_of_plan_after-requires-clause-known : goal.cost_of_plan_after-requires-clause-known
cost_of_plan_after-requires-clause-known c =
    known-at c.args.part.now.model.now c.args.tables.now c.requires.tables c.loop-d.d c.index-tables-d.result c.index-tables-d.is c.loop-d-test.true

pub loop-d-preserved : goal.loop-d-preserved
loop-d-preserved c =
    let part = c.args.part.now in
    let i = c.loop-d.invariant in
    let e = c.in_ok-cost.ensures in
    cost-in-more part.model.now (vehicle_after part) (list_after part) c.loop-d.d _ c.in_ok-cost.field-0 _ i e.value e.range
    (omega (
      arith,
      ints,
      c.loop-d.cost-is,
      e.range.low,
      e.range.high,
      i.range.low,
      i.range.high,
      c.loop-d-test.true,
      part.sound.well_formed.number_of_dimensions,
      c.requires.tables.one_of_each,
    ))

pub returns-clause-value : goal.returns-clause-value
returns-clause-value c =
    let part = c.args.part.now in
    cost-in-all part.model.now (vehicle_after part) (list_after part) c.requires.used.some c.loop-d.d
    (omega (arith, c.requires.tables.one_of_each, c.loop-d-test.false, c.loop-d.auto.d-end)) _ c.loop-d.invariant
