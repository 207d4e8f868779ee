use Rattle.std.proofs.Common.{◌≡◌, true, take}
use Rattle.vr_pathfilters.specs.Vehicles.{are_allowed_pieces}
use Rattle.vr_pathfilters.proofs.vehicles.pieces_allow.Given as goal

-- the nodes of the pieces so far allow the vehicle
abbrev pub invariant-loop-k : goal.invariant-loop-k
invariant-loop-k l = are_allowed_pieces l.node_tables l.routes.lists l.v (take l.k l.pieces) ≡ true
