use Rattle.std.proofs.Common.{arith, to_z, w64}
use Rattle.std.proofs.lemmas.Int.{ints}
use Rattle.vr_model.specs.tables.Tables.{vehicle_at}
use Rattle.vr_loads.specs.Loads.{taken}
use Rattle.vr_loads.proofs.Totals.{so-far}
use Rattle.vr_ruin.proofs.CarryingLemmas.{next-load, taken-small}
use Rattle.vr_ruin.proofs.carrying.load_along.Goals as goal

pub overflow_add-load : goal.overflow_add-load
overflow_add-load c =
    let model = c.args.list.now.closed.model.now in
    let v = c.args.list.now.vehicle in
    let small = taken-small model c.args.d v c.requires.load c.args.list.now.there in
    let u = so-far (taken model c.args.d v) small c.args.list.now.nodes.now c.requires.few c.loop-k.k in
    let s = small.each (vehicle_at model v).start in
    let b = c.taken-load-in-loop-k.ensures.range in
    omega (arith, ints, u.low, u.high, s.low, s.high, b.low, b.high, c.loop-k.load-is, c.loop-k.invariant)

pub loop-k-preserved : goal.loop-k-preserved
loop-k-preserved c =
    let model = c.args.list.now.closed.model.now in
    let v = c.args.list.now.vehicle in
    let small = taken-small model c.args.d v c.requires.load c.args.list.now.there in
    next-load (taken model c.args.d v) small c.args.list.now.nodes.now c.requires.few c.loop-k.k
    c.loop-k-test.true (taken model c.args.d v (vehicle_at model v).start) (small.each (vehicle_at model v).start)
    (to_z w64 c.loop-k.load-bits) c.taken-load-in-loop-k.result c.loop-k.invariant c.taken-load-in-loop-k.ensures.value

pub returns-clause-range : goal.returns-clause-range
returns-clause-range c =
    let model = c.args.list.now.closed.model.now in
    let v = c.args.list.now.vehicle in
    let small = taken-small model c.args.d v c.requires.load c.args.list.now.there in
    let u = so-far (taken model c.args.d v) small c.args.list.now.nodes.now c.requires.few c.loop-k.k in
    let s = small.each (vehicle_at model v).start in
    record {
      low = omega (arith, ints, u.low, u.high, s.low, s.high, c.loop-k.invariant);
      high = omega (arith, ints, u.low, u.high, s.low, s.high, c.loop-k.invariant);
    }
