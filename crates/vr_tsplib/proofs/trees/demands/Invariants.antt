use Rattle.std.proofs.Common.{◌≡◌, map}
use Rattle.std.specs.List.{range_with_len}
use Rattle.serde_json.specs.View.{view}
use Rattle.vr_tsplib.specs.Rows.{demand_of}
use Rattle.vr_json.specs.Trees.{count}
use Rattle.vr_tsplib.proofs.trees.demands.Given as goal

abbrev pub invariant-loop-k : goal.invariant-loop-k
invariant-loop-k l = map view l.all.items ≡ map (λ node. count (demand_of l.state.demands node)) (range_with_len 1 l.k)
