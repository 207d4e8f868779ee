use Rattle.std.proofs.Common.{◌≡◌, ◌+◌, length, drop}
use Rattle.vr_tsplib.specs.Files.{read_lines, start}
use Rattle.vr_tsplib.specs.Texts.{lines}
use Rattle.vr_tsplib.proofs.files.read_lines.Given as goal

abbrev pub invariant-loop-line : goal.invariant-loop-line
invariant-loop-line l = record {
  counted : l.number ≡ length l.yielded;
  so_far : read_lines l.state (l.number + 1) (drop (length l.yielded) (lines l.bytes)) ≡ read_lines start 1 (lines l.bytes);
}
