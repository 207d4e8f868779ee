use Rattle.std.proofs.Common.{subst, arith}
use Rattle.std.specs.Prelude.{All}
use Rattle.vr_routes.specs.Pieces.{nodes_of}
use Rattle.vr_earliest.proofs.walks.along_piece.Goals as goal

pub way_to_visit-requires-clause-node : goal.way_to_visit-requires-clause-node
way_to_visit-requires-clause-node g c =
    subst (λ p. All (g.G.Walk.can_visit c.args.walk.now) (nodes_of c.args.routes.now.lists p)) c.in-Node.is c.requires.nodes 0 0 (omega arith)

pub way_to_visit-requires-clause-way : goal.way_to_visit-requires-clause-way
way_to_visit-requires-clause-way g c = g.met.G.Walk.way_grows c.args.walk.now 9000 10000 c.args.way (omega arith) c.requires.way
