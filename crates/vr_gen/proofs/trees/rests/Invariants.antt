use Rattle.std.proofs.Common.{◌≡◌, map}
use Rattle.serde_json.specs.View.{view}
use Rattle.vr_model.specs.tables.Numbers.{below}
use Rattle.vr_gen.specs.Generated.{rest}
use Rattle.vr_gen.proofs.trees.rests.Given as goal

abbrev pub invariant-loop-v : goal.invariant-loop-v
invariant-loop-v l = map view l.all.items ≡ map rest (below l.v)
