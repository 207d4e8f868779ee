use Rattle.std.proofs.Common.{◌≡◌, map, take}
use Rattle.serde_json.specs.View.{view}
use Rattle.vr_tsplib.specs.Trees.{plane_row}
use Rattle.vr_tsplib.proofs.trees.plane.Given as goal

abbrev pub invariant-loop-from : goal.invariant-loop-from
invariant-loop-from l = map view l.rows.items ≡ map (plane_row l.places) (take l.from-index l.places)
