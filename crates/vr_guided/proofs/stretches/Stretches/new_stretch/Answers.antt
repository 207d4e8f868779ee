use Rattle.std.proofs.Common.{◌≡◌, ◌∙◌, to_z, of_z, ap, refl, arith}
use Rattle.std.specs.Int.{w128}
use Rattle.std.proofs.lemmas.Int.{ints}
use Rattle.vr_routes.specs.Pieces.{joined}
use Rattle.vr_guided.specs.Counts.{counted}
use Rattle.vr_guided.specs.Walks.{walk_begun, walked}
use Rattle.vr_guided.proofs.WalkLemmas.{stretch_arcs, stretch_total, stretch_high}
use Rattle.vr_guided.proofs.stretches.Stretches.new_stretch.Goals.{After-along_pieces}
use Rattle.vr_guided.proofs.stretches.Stretches.new_stretch.Goals as goal

-- the walk goes through the nodes of the pieces
goes : (c : After-along_pieces)
    → c.along_pieces.new.walk ≡ walked c.args.self.now.arcs.weights.closed.model.now (counted c.args.self.now.arcs.weights.penalties.now)
    c.args.self.now.arcs.vehicle (walk_begun c.args.start) (joined c.args.self.now.routes.now.lists c.args.pieces.now)
goes c =
    c.along_pieces.ensures.value ∙ ap (λ w. walked c.args.self.now.arcs.weights.closed.model.now (counted c.args.self.now.arcs.weights.penalties.now)
    c.args.self.now.arcs.vehicle w (joined c.args.self.now.routes.now.lists c.args.pieces.now)) c.begin-walk.ensures

pub step-requires-clause-room : goal.step-requires-clause-room
step-requires-clause-room c =
    let arcs = stretch_arcs c.args.self.now.arcs.weights.closed.model.now (counted c.args.self.now.arcs.weights.penalties.now)
    c.args.self.now.arcs.vehicle c.args.start c.args.next (joined c.args.self.now.routes.now.lists c.args.pieces.now)
    c.along_pieces.new.walk _ (goes (goal.at.step-requires-clause-room c).After-along_pieces) refl in
    let short = c.requires.short in
    omega (arith, arcs, short)

pub returns-clause-high : goal.returns-clause-high
returns-clause-high c =
    let low = c.step.ensures.sound.low in
    let high = stretch_high c.args.self.now.arcs.weights.closed.model.now (counted c.args.self.now.arcs.weights.penalties.now)
    c.args.self.now.arcs.vehicle c.args.start c.args.next (joined c.args.self.now.routes.now.lists c.args.pieces.now) c.along_pieces.new.walk
    c.step.new.walk (goes (goal.at.returns-clause-high c).After-along_pieces) c.step.ensures.value c.requires.short c.step.ensures.sound.high in
    omega (arith, ints, low, high)

pub returns-clause-nodes : goal.returns-clause-nodes
returns-clause-nodes c =
    stretch_arcs c.args.self.now.arcs.weights.closed.model.now (counted c.args.self.now.arcs.weights.penalties.now)
    c.args.self.now.arcs.vehicle c.args.start c.args.next (joined c.args.self.now.routes.now.lists c.args.pieces.now)
    c.along_pieces.new.walk c.step.new.walk (goes (goal.at.returns-clause-nodes c).After-along_pieces) c.step.ensures.value

pub returns-clause-total : goal.returns-clause-total
returns-clause-total c =
    let went = goes (goal.at.returns-clause-total c).After-along_pieces in
    let low = c.step.ensures.sound.low in
    let high = stretch_high c.args.self.now.arcs.weights.closed.model.now (counted c.args.self.now.arcs.weights.penalties.now)
    c.args.self.now.arcs.vehicle c.args.start c.args.next (joined c.args.self.now.routes.now.lists c.args.pieces.now)
    c.along_pieces.new.walk c.step.new.walk went c.step.ensures.value c.requires.short c.step.ensures.sound.high in
    let same : to_z w128 (of_z w128 c.step.new.walk.total) ≡ c.step.new.walk.total = omega (arith, ints, low, high) in
    same ∙ stretch_total c.args.self.now.arcs.weights.closed.model.now (counted c.args.self.now.arcs.weights.penalties.now) c.args.self.now.arcs.vehicle
    c.args.start c.args.next (joined c.args.self.now.routes.now.lists c.args.pieces.now) c.along_pieces.new.walk c.step.new.walk went c.step.ensures.value
