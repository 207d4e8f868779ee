use Rattle.std.proofs.Common.{arith}
use Rattle.std.proofs.lemmas.Grind.{common_steps}
use Rattle.vr_gen.specs.Generated.{window}
use Rattle.vr_model.proofs.tables.Ranges.{map-below_more}
use Rattle.vr_gen.proofs.trees.windows.Goals as goal

pub loop-k-preserved : goal.loop-k-preserved
loop-k-preserved c = let more = map-below_more (window c.args.customers.now) c.loop-k.k in grind (arith, common_steps)
