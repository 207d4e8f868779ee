use Rattle.std.proofs.Common.{◌≡◌, ◌∙◌, cond, ap, ap₂, sym, subst, arith, to_z, of_z, w64}
use Rattle.std.specs.Prelude.{pos, ◌+ℤ◌, ◌-ℤ◌, true}
use Rattle.std.specs.Int.{int_min}
use Rattle.std.proofs.lemmas.Int.{ints, int_min_is}
use Rattle.vr_model.specs.tables.Numbers.{horizon}
use Rattle.vr_model.specs.tables.Tables.{dimension_at, no_dimension, vehicle_at}
use Rattle.vr_model.specs.tables.WellFormed.{IsIn}
use Rattle.vr_model.specs.declared.records.Dimension.{Dimension}
use Rattle.vr_earliest.specs.Floors.{starts_freely}
use Rattle.vr_earliest.specs.Floors.{start_floor}
use Rattle.vr_earliest.proofs.FloorLemmas.{floor-at}
use Rattle.vr_earliest.proofs.ways.Guide.span_by.Goals as goal

pub overflow_sub-way : goal.overflow_sub-way
overflow_sub-way c =
    let f = (floor-at _ _ c.args.self.now.floors.now.starts.items c.args.self.now.sound.floors_are.starts
    c.args.self.now.v c.args.self.now.sound.vehicle c.index-2.result.now c.index-2.ensures).range in
    omega (arith, ints, f.at_least, f.at_most, c.requires.way.early, c.requires.way.late)

pub overflow_add-slack : goal.overflow_add-slack
overflow_add-slack c =
    let r = subst (λ (x : Dimension). IsIn (pos 0) horizon x.slack_max) (c.get.ensures.value no_dimension)
    (c.args.self.now.sound.well_formed.each_dimension c.args.self.now.d no_dimension c.args.self.now.sound.dimension).slack_max_in_range in
    omega (arith, ints, r.at_least, r.at_most, c.requires.way.low, c.requires.way.high)

pub returns : goal.returns
returns c =
    let m = c.args.self.now.model.now in
    let d = c.args.self.now.d in
    let v = c.args.self.now.v in
    let way = c.args.way in
    let dimension = dimension_at m d in
    let f = floor-at _ _ c.args.self.now.floors.now.starts.items c.args.self.now.sound.floors_are.starts
    v c.args.self.now.sound.vehicle c.index-2.result.now c.index-2.ensures in
    let r = (c.args.self.now.sound.well_formed.each_dimension d no_dimension c.args.self.now.sound.dimension).slack_max_in_range in
    let slack = ap (λ (x : Dimension). x.slack_max) (c.get.ensures.value no_dimension) in
    let a : to_z w64 (of_z w64 (to_z w64 (of_z w64 way.time) -ℤ to_z w64 (of_z w64 c.index-2.result.now))) ≡ way.time -ℤ start_floor m d v =
    omega (arith, ints, f.is, f.range.at_least, f.range.at_most, c.requires.way.early, c.requires.way.late) in
    let b : to_z w64 (of_z w64 (to_z w64 (of_z w64 c.get.result.now.slack_max) +ℤ to_z w64 (of_z w64 way.transits))) ≡ dimension.slack_max +ℤ way.transits =
    omega (arith, ints, r.at_least, r.at_most, slack, c.requires.way.low, c.requires.way.high) in
    let is = c.min.ensures.value ∙ ap₂ (λ x y. int_min x y) a b in
    let n = int_min_is (way.time -ℤ start_floor m d v) (dimension.slack_max +ℤ way.transits) in
    let read : to_z w64 (of_z w64 c.min.result) ≡ int_min (way.time -ℤ start_floor m d v) (dimension.slack_max +ℤ way.transits) = omega (
      arith,
      ints,
      is,
      n,
      f.is,
      f.range.at_least,
      f.range.at_most,
      c.requires.way.early,
      c.requires.way.late,
      c.requires.way.low,
      c.requires.way.high,
      r.at_least,
      r.at_most,
    ) in
    let free : starts_freely (vehicle_at m v) dimension v ≡ true =
    sym (c.args.self.now.sound.floors_are.free.each v c.index.result.now c.args.self.now.sound.vehicle) ∙ sym c.index.ensures ∙ c.if-not-index.false in
    read ∙ sym (ap (λ x. cond x (int_min (way.time -ℤ start_floor m d v) (dimension.slack_max +ℤ way.transits)) way.transits) free)
