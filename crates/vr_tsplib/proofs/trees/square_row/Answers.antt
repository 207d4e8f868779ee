use Rattle.std.proofs.Common.{arith}
use Rattle.std.proofs.lemmas.Grind.{common_steps}
use Rattle.vr_model.proofs.tables.Ranges.{map-below_more}
use Rattle.vr_tsplib.specs.Trees.{weight}
use Rattle.vr_json.specs.Trees.{count}
use Rattle.vr_tsplib.proofs.trees.square_row.Goals as goal

pub loop-j-preserved : goal.loop-j-preserved
loop-j-preserved c =
    let more = map-below_more (λ j. count (weight c.args.of.now.lower c.args.of.now.n c.args.of.now.weights.now c.args.i j)) c.loop-j.j in
    grind (arith, common_steps)
