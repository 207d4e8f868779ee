use Rattle.std.specs.Prelude.{true}
use Rattle.vr_routes.specs.declared.pieces.Piece.TheVariants.{Chain}
use Rattle.vr_routes.proofs.SpliceLemmas.{added}
use Rattle.vr_routes.proofs.pieces.Part.reversed.Goals as goal

pub returns-clause-after : goal.returns-clause-after
returns-clause-after c lists w front nodes low within before = added lists c.args.self.now c.add.new.self w front nodes
    (Chain c.args.v c.args.from c.args.to true) c.add.ensures.vehicle c.add.ensures.front c.add.ensures.pieces (low, c.requires.order, within) before
