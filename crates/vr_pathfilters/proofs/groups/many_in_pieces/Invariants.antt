use Rattle.std.proofs.Common.{◌≡◌, ◌≤◌, ◌*◌, take}
use Rattle.vr_pathfilters.specs.Groups.{many_of}
use Rattle.vr_pathfilters.proofs.groups.many_in_pieces.Given as goal

-- how many nodes of the pieces so far are of the group
abbrev pub invariant-loop-k : goal.invariant-loop-k
invariant-loop-k l = record {
  value : l.many ≡ many_of l.numbers l.routes.lists (take l.k l.pieces) l.g;
  few : l.many ≤ 1000 * l.k;
}
