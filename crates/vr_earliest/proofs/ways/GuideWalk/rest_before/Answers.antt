use Rattle.std.proofs.Common.{◌≡◌, ◌∙◌, ◌+◌, ap₂, sym, subst, arith, to_z, of_z, w64}
use Rattle.std.specs.Prelude.{ℤ, ◌+ℤ◌}
use Rattle.std.specs.Int.{int_max}
use Rattle.std.proofs.lemmas.Int.{ints, int_max_is}
use Rattle.vr_model.specs.tables.Tables.{transit}
use Rattle.vr_earliest.specs.declared.ways.Rest.{Rest}
use Rattle.vr_earliest.specs.Floors.{visit_floor}
use Rattle.vr_earliest.specs.Rests.{IsRestOf}
use Rattle.vr_earliest.specs.Ways.{arcs-more}
use Rattle.vr_earliest.proofs.FloorLemmas.{floor-at, floor-range}
use Rattle.vr_earliest.proofs.WayLemmas.{rest-before}
use Rattle.vr_earliest.proofs.ways.GuideWalk.rest_before.Goals as goal

pub overflow_add-index : goal.overflow_add-index
overflow_add-index c =
    let f = (floor-at _ _ c.args.self.now.floors.now.visits.items c.args.self.now.sound.floors_are.visits
    c.args.node c.requires.node c.index.result.now c.index.ensures).range in
    omega (arith, ints, f.at_least, f.at_most, c.transit.ensures.least, c.transit.ensures.greatest, c.requires.rest.low, c.requires.rest.high)

pub returns-clause-value : goal.returns-clause-value
returns-clause-value c =
    let m = c.args.self.now.model.now in
    let rest = c.args.rest in
    let t = transit m c.args.self.now.d c.args.self.now.v c.args.node rest.at in
    let floor = visit_floor m c.args.self.now.d c.args.node in
    let f = floor-at _ _ c.args.self.now.floors.now.visits.items c.args.self.now.sound.floors_are.visits
    c.args.node c.requires.node c.index.result.now c.index.ensures in
    let e = c.transit.ensures.value in let a = c.transit.ensures.least in let b = c.transit.ensures.greatest in
    let low = c.requires.rest.low in let high = c.requires.rest.high in
    let transits : to_z w64 (of_z w64 (to_z w64 (of_z w64 c.transit.result) +ℤ to_z w64 (of_z w64 rest.transits))) ≡ t +ℤ rest.transits =
    omega (arith, ints, e, a, b, low, high) in
    let here : to_z w64 (of_z w64 c.index.result.now) ≡ floor = omega (arith, ints, f.is, f.range.at_least, f.range.at_most) in
    let sum : to_z w64
    (of_z w64 (to_z w64 (of_z w64 c.index.result.now) +ℤ to_z w64 (of_z w64 (to_z w64 (of_z w64 c.transit.result) +ℤ to_z w64 (of_z w64 rest.transits)))))
    ≡ floor +ℤ (t +ℤ rest.transits) =
    omega (arith, ints, here, transits, e, a, b, low, high, f.is, f.range.at_least, f.range.at_most) in
    let other : to_z w64 (of_z w64 rest.least_end) ≡ rest.least_end = omega (arith, ints, c.requires.rest.early, c.requires.rest.late) in
    let is = c.max.ensures.value ∙ ap₂ (λ x y. int_max x y) sum other in
    let n = int_max_is (floor +ℤ (t +ℤ rest.transits)) rest.least_end in
    let read : to_z w64 (of_z w64 c.max.result) ≡ int_max (floor +ℤ (t +ℤ rest.transits)) rest.least_end =
    omega (arith, ints, is, n, e, a, b, low, high, c.requires.rest.early, c.requires.rest.late, f.is, f.range.at_least, f.range.at_most) in
    ap₂ (λ (x y : ℤ). (let r : Rest = record { at = c.args.node; transits = x; least_end = y } in r)) transits read

pub returns-clause-range : goal.returns-clause-range
returns-clause-range c n m less is =
    let g = c.args.self.now in
    let h = g.sound in
    arcs-more (n + 1) m (omega (arith, less))
    (subst (IsRestOf g.model.now (n + 1)) (sym (returns-clause-value c))
    (rest-before g.model.now h.well_formed g.d g.v h.dimension h.vehicle n c.args.rest c.args.node is
    c.requires.node (floor-range _ _ g.floors.now.visits.items h.floors_are.visits c.args.node c.requires.node)))
