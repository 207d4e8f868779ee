use Rattle.std.proofs.Common.{◌≡◌, take, length}
use Rattle.vr_lists.specs.Nodes.{AreWritten}
use Rattle.vr_lists.proofs.nodes.write_each.Given as goal

-- the value stands at the places so far
abbrev pub invariant-loop-place : goal.invariant-loop-place
invariant-loop-place g l = record {
  count : length l.values ≡ length l.initial.values;
  each : AreWritten l.initial.values (take l.place-index l.places) l.value l.values;
}
