use Rattle.std.proofs.Common.{◌≡◌, map}
use Rattle.serde_json.specs.View.{view}
use Rattle.vr_model.specs.tables.Numbers.{below}
use Rattle.vr_gen.specs.Generated.{vehicle}
use Rattle.vr_gen.proofs.trees.vehicles.Given as goal

abbrev pub invariant-loop-v : goal.invariant-loop-v
invariant-loop-v l = map view l.all.items ≡ map (λ v. vehicle) (below l._v)
