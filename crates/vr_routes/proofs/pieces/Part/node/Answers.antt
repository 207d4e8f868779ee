use Rattle.vr_routes.specs.declared.pieces.Piece.TheVariants.{Node}
use Rattle.vr_routes.proofs.SpliceLemmas.{added}
use Rattle.vr_routes.proofs.pieces.Part.node.Goals as goal

pub returns-clause-after : goal.returns-clause-after
returns-clause-after c lists w front nodes before =
    added lists c.args.self.now c.add.new.self w front nodes (Node c.args.node) c.add.ensures.vehicle c.add.ensures.front c.add.ensures.pieces tt before
