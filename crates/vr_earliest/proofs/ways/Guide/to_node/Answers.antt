use Rattle.std.proofs.Common.{◌≡◌, ◌∙◌, ap₂, arith, to_z, of_z, w64}
use Rattle.std.specs.Prelude.{ℤ, ◌+ℤ◌}
use Rattle.std.specs.Int.{int_max}
use Rattle.std.proofs.lemmas.Int.{ints, int_max_is}
use Rattle.vr_model.specs.tables.Tables.{transit}
use Rattle.vr_earliest.specs.declared.ways.Way.{Way}
use Rattle.vr_earliest.proofs.ways.Guide.to_node.Goals as goal

pub returns : goal.returns
returns c =
    let t = transit c.args.self.now.model.now c.args.self.now.d c.args.self.now.v c.args.way.at c.args.node in
    let way = c.args.way in
    let h = c.requires.way in
    let e = c.transit-transit.ensures.value in
    let a = c.transit-transit.ensures.least in
    let b = c.transit-transit.ensures.greatest in
    let m = int_max_is (way.time +ℤ t) c.args.floor in
    let sum : to_z w64 (of_z w64 (to_z w64 (of_z w64 way.time) +ℤ to_z w64 (of_z w64 c.transit-transit.result))) ≡ way.time +ℤ t =
    omega (arith, ints, e, a, b, h.early, h.late) in
    let floor : to_z w64 (of_z w64 c.args.floor) ≡ c.args.floor = omega (arith, ints, c.requires.floor.at_least, c.requires.floor.at_most) in
    let is = c.max.ensures.value ∙ ap₂ (λ x y. int_max x y) sum floor in
    let time : to_z w64 (of_z w64 c.max.result) ≡ int_max (way.time +ℤ t) c.args.floor =
    omega (arith, ints, is, m, e, a, b, h.early, h.late, c.requires.floor.at_least, c.requires.floor.at_most) in
    let transits : to_z w64 (of_z w64 (to_z w64 (of_z w64 way.transits) +ℤ to_z w64 (of_z w64 c.transit-transit.result))) ≡ way.transits +ℤ t =
    omega (arith, ints, e, a, b, h.low, h.high) in
    ap₂ (λ (x y : ℤ). (let w : Way = record { at = c.args.node; time = x; transits = y } in w)) time transits
