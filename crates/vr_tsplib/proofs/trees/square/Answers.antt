use Rattle.std.proofs.Common.{arith}
use Rattle.std.proofs.lemmas.Grind.{common_steps}
use Rattle.vr_model.proofs.tables.Ranges.{map-below_more}
use Rattle.vr_tsplib.specs.Trees.{square_row}
use Rattle.vr_tsplib.proofs.trees.square.Goals as goal

pub loop-i-preserved : goal.loop-i-preserved
loop-i-preserved c =
    let more = map-below_more (square_row c.args.of.now.lower c.args.of.now.n c.args.of.now.weights.now) c.loop-i.i in
    grind (arith, common_steps)
