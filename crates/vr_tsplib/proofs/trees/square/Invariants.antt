use Rattle.std.proofs.Common.{◌≡◌, map}
use Rattle.serde_json.specs.View.{view}
use Rattle.vr_model.specs.tables.Numbers.{below}
use Rattle.vr_tsplib.specs.Trees.{square_row}
use Rattle.vr_tsplib.proofs.trees.square.Given as goal

abbrev pub invariant-loop-i : goal.invariant-loop-i
invariant-loop-i l = map view l.rows.items ≡ map (square_row l.of.lower l.of.n l.of.weights.now) (below l.i)
