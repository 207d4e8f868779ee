use Rattle.std.proofs.Common.{◌≡◌, map}
use Rattle.serde_json.specs.View.{view}
use Rattle.vr_model.specs.tables.Numbers.{below}
use Rattle.vr_tsplib.specs.Trees.{weight}
use Rattle.vr_json.specs.Trees.{count}
use Rattle.vr_tsplib.proofs.trees.square_row.Given as goal

abbrev pub invariant-loop-j : goal.invariant-loop-j
invariant-loop-j l = map view l.entries.items ≡ map (λ j. count (weight l.of.lower l.of.n l.of.weights.now l.i j)) (below l.j)
