use Rattle.std.proofs.Common.{◌≡◌, map, take}
use Rattle.serde_json.specs.View.{view}
use Rattle.vr_tsplib.specs.Trees.{distance}
use Rattle.vr_json.specs.Trees.{count}
use Rattle.vr_tsplib.proofs.trees.plane_row.Given as goal

abbrev pub invariant-loop-to : goal.invariant-loop-to
invariant-loop-to l = map view l.entries.items ≡ map (λ b. count (distance l.from b)) (take l.to-index l.places)
