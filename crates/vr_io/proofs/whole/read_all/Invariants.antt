use Rattle.std.proofs.Common.{◌≡◌, ◌≤◌, ◌+◌, length}
use Rattle.vr_io.specs.Edges.{Gave}
use Rattle.vr_io.proofs.whole.read_all.Given as goal

abbrev pub invariant-loop-n : goal.invariant-loop-n
invariant-loop-n g l = record {
  gave : Gave (g.S.Source.left l.initial.source) (g.S.Source.left l.source) l.all.items;
  room : length l.all.items + l.room ≡ l.max;
  grows : g.S.Source.faults l.initial.source ≤ g.S.Source.faults l.source;
  quiet : g.S.Source.faults l.source ≡ g.S.Source.faults l.initial.source;
}

abbrev pub decreases-loop-n : goal.decreases-loop-n
decreases-loop-n g l = l.room
