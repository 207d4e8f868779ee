use Rattle.std.proofs.Common.{◌<◌, subst, arith}
use Rattle.std.proofs.lemmas.Int.{ints}
use Rattle.vr_model.specs.tables.Tables.{no_vehicle}
use Rattle.vr_model.specs.declared.records.Vehicle.{Vehicle}
use Rattle.vr_earliest.proofs.FloorLemmas.{floor-at}
use Rattle.vr_earliest.proofs.ways.GuideWalk.rest_at_end.Goals as goal

pub returns-clause-range : goal.returns-clause-range
returns-clause-range c n =
    let g = c.args.self.now in
    let h = g.sound in
    let f = floor-at _ _ g.floors.now.ends.items h.floors_are.ends g.v h.vehicle c.index.result.now c.index.ensures in
    record {
      at = subst (λ (w : Vehicle). w.end < g.model.now.nodes) (c.get.ensures.value no_vehicle)
          (h.well_formed.each_vehicle g.v no_vehicle h.vehicle).end_in_range;
      low = omega (arith, ints);
      high = omega (arith, ints);
      early = omega (arith, ints, f.range.at_least, f.range.at_most);
      late = omega (arith, ints, f.range.at_least, f.range.at_most);
    }
