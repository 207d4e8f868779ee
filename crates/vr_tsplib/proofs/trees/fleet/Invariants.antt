use Rattle.std.proofs.Common.{◌≡◌, map}
use Rattle.serde_json.specs.View.{view}
use Rattle.vr_model.specs.tables.Numbers.{below}
use Rattle.vr_tsplib.specs.Trees.{vehicle}
use Rattle.vr_tsplib.proofs.trees.fleet.Given as goal

abbrev pub invariant-loop-v : goal.invariant-loop-v
invariant-loop-v l = map view l.all.items ≡ map (λ v. vehicle l.node) (below l._v)
