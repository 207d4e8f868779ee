use Rattle.std.proofs.Common.{arith}
use Rattle.std.proofs.lemmas.Grind.{common_steps}
use Rattle.vr_model.proofs.tables.Ranges.{map-below_more}
use Rattle.vr_tsplib.specs.Trees.{vehicle}
use Rattle.vr_tsplib.proofs.trees.fleet.Goals as goal

pub loop-v-preserved : goal.loop-v-preserved
loop-v-preserved c = let more = map-below_more (λ v. vehicle c.args.node) c.loop-v._v in grind (arith, common_steps)
