use Rattle.std.proofs.Common.{◌≡◌, ◌∙◌, ◌+◌, ap, sym, subst, arith, to_z, of_z, w64}
use Rattle.std.proofs.lemmas.Int.{ints}
use Rattle.vr_earliest.specs.Floors.{visit_floor}
use Rattle.vr_earliest.specs.Ways.{arcs-more, to_node, IsWayOf}
use Rattle.vr_earliest.proofs.FloorLemmas.{floor-at, floor-range}
use Rattle.vr_earliest.proofs.WayLemmas.{node-way}
use Rattle.vr_earliest.proofs.ways.GuideWalk.way_to_visit.Goals as goal

pub to_node-requires-clause-floor : goal.to_node-requires-clause-floor
to_node-requires-clause-floor c =
    let f = (floor-at _ _ c.args.self.now.floors.now.visits.items c.args.self.now.sound.floors_are.visits
    c.args.node c.requires.node c.index.result.now c.index.ensures).range in
    record { at_least = omega (arith, ints, f.at_least, f.at_most); at_most = omega (arith, ints, f.at_least, f.at_most) }

pub returns-clause-value : goal.returns-clause-value
returns-clause-value c =
    let s = c.args.self.now in
    let f = floor-at _ _ s.floors.now.visits.items c.args.self.now.sound.floors_are.visits c.args.node c.requires.node c.index.result.now c.index.ensures in
    let floor : to_z w64 (of_z w64 c.index.result.now) ≡ visit_floor s.model.now s.d c.args.node =
    omega (arith, ints, f.is, f.range.at_least, f.range.at_most) in
    c.to_node.ensures ∙ ap (λ x. to_node s.model.now s.d s.v c.args.way c.args.node x) floor

pub returns-clause-range : goal.returns-clause-range
returns-clause-range c n m less is =
    let g = c.args.self.now in
    let h = g.sound in
    arcs-more (n + 1) m (omega (arith, less))
    (subst (IsWayOf g.model.now (n + 1)) (sym (returns-clause-value c))
    (node-way g.model.now h.well_formed g.d g.v h.dimension h.vehicle n c.args.way c.args.node (visit_floor g.model.now g.d c.args.node)
    is c.requires.node (floor-range _ _ g.floors.now.visits.items h.floors_are.visits c.args.node c.requires.node)))
