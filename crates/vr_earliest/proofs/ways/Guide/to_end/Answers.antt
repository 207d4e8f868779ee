use Rattle.std.proofs.Common.{◌≡◌, ◌∙◌, ap, ap₂, sym, subst, arith, to_z, of_z, w64}
use Rattle.std.specs.Prelude.{ℤ, ◌+ℤ◌}
use Rattle.std.specs.Int.{int_max}
use Rattle.std.proofs.lemmas.Int.{ints, int_max_is}
use Rattle.vr_model.specs.tables.Tables.{no_vehicle, transit, vehicle_at}
use Rattle.vr_model.specs.declared.records.Vehicle.{Vehicle}
use Rattle.vr_earliest.specs.declared.ways.Way.{Way}
use Rattle.vr_earliest.specs.Ways.{IsWayOf}
use Rattle.vr_earliest.proofs.WayLemmas.{end-way}
use Rattle.vr_earliest.proofs.ways.Guide.to_end.Goals as goal

pub overflow_add-result : goal.overflow_add-result
overflow_add-result c =
    let way = c.requires.way in let rest = c.requires.rest in
    omega (arith, ints, c.transit.ensures.least, c.transit.ensures.greatest, way.early, way.late, way.low, way.high, rest.low, rest.high)

pub returns-clause-value : goal.returns-clause-value
returns-clause-value c =
    let s = c.args.self.now in
    let way = c.args.way in let rest = c.args.rest in
    let t = transit s.model.now s.d s.v way.at rest.at in
    let e = c.transit.ensures.value in let a = c.transit.ensures.least in let b = c.transit.ensures.greatest in
    let l = c.requires.rest.low in let h = c.requires.rest.high in
    let left : to_z w64 (of_z w64 (to_z w64 (of_z w64 c.transit.result) +ℤ to_z w64 (of_z w64 rest.transits))) ≡ t +ℤ rest.transits =
    omega (arith, ints, e, a, b, l, h) in
    let sum : to_z w64
    (of_z w64 (to_z w64 (of_z w64 way.time) +ℤ to_z w64 (of_z w64 (to_z w64 (of_z w64 c.transit.result) +ℤ to_z w64 (of_z w64 rest.transits)))))
    ≡ way.time +ℤ (t +ℤ rest.transits) =
    omega (arith, ints, left, e, a, b, l, h, c.requires.way.early, c.requires.way.late) in
    let floor : to_z w64 (of_z w64 rest.least_end) ≡ rest.least_end = omega (arith, ints, c.requires.rest.early, c.requires.rest.late) in
    let is = c.max.ensures.value ∙ ap₂ (λ x y. int_max x y) sum floor in
    let m = int_max_is (way.time +ℤ (t +ℤ rest.transits)) rest.least_end in
    let time : to_z w64 (of_z w64 c.max.result) ≡ int_max (way.time +ℤ (t +ℤ rest.transits)) rest.least_end =
    omega (arith, ints, is, m, e, a, b, l, h, c.requires.way.early, c.requires.way.late, c.requires.rest.early, c.requires.rest.late) in
    let transits : to_z w64
    (of_z w64 (to_z w64 (of_z w64 way.transits) +ℤ to_z w64 (of_z w64 (to_z w64 (of_z w64 c.transit.result) +ℤ to_z w64 (of_z w64 rest.transits)))))
    ≡ way.transits +ℤ (t +ℤ rest.transits) =
    omega (arith, ints, left, e, a, b, l, h, c.requires.way.low, c.requires.way.high) in
    let end : c.get.result.now.end ≡ (vehicle_at s.model.now s.v).end = ap (λ (x : Vehicle). x.end) (sym (c.get.ensures.value no_vehicle)) in
    ap₂ (λ (x y : ℤ). (let w : Way = record { at = c.get.result.now.end; time = x; transits = y } in w)) time transits
    ∙ ap (λ node. (let w : Way = record {
      at = node;
      time = int_max (way.time +ℤ (t +ℤ rest.transits)) rest.least_end;
      transits = way.transits +ℤ (t +ℤ rest.transits);
    } in w)) end

pub returns-clause-range : goal.returns-clause-range
returns-clause-range c =
    let s = c.args.self.now in
    let g = c.args.self.now.sound in
    subst (IsWayOf s.model.now 10001) (sym (returns-clause-value c))
    (end-way s.model.now g.well_formed s.d s.v g.dimension g.vehicle 9000 1000 c.args.way c.args.rest c.requires.way c.requires.rest)
