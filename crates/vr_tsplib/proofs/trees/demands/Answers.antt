use Rattle.std.proofs.Common.{arith}
use Rattle.std.proofs.lemmas.Grind.{common_steps}
use Rattle.vr_tsplib.specs.Rows.{demand_of}
use Rattle.vr_json.specs.Trees.{count}
use Rattle.vr_tsplib.proofs.TreeLemmas.{one_node_more}
use Rattle.vr_tsplib.proofs.trees.demands.Goals as goal

pub loop-k-preserved : goal.loop-k-preserved
loop-k-preserved c = let more = one_node_more (λ node. count (demand_of c.args.state.now.demands node)) c.loop-k.k in grind (arith, common_steps)
