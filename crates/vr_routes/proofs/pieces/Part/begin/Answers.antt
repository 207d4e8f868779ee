use Rattle.vr_routes.proofs.SpliceLemmas.{begun}
use Rattle.vr_routes.proofs.pieces.Part.begin.Goals as goal

pub returns-clause-after : goal.returns-clause-after
returns-clause-after c lists = begun lists c.add.new.self c.args.v c.args.front c.add.ensures.vehicle c.add.ensures.front c.add.ensures.pieces
