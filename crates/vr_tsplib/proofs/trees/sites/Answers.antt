use Rattle.std.proofs.Common.{arith}
use Rattle.std.proofs.lemmas.Grind.{common_steps}
use Rattle.vr_tsplib.specs.Rows.{site_of}
use Rattle.vr_tsplib.proofs.TreeLemmas.{one_node_more}
use Rattle.vr_tsplib.proofs.trees.sites.Goals as goal

pub loop-k-preserved : goal.loop-k-preserved
loop-k-preserved c = let more = one_node_more (site_of c.args.rows.now) c.loop-k.k in grind (arith, common_steps)
