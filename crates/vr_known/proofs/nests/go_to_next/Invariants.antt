use Rattle.std.proofs.Common.{◌≡◌, ◌-◌, ◌<◌}
use Rattle.vr_known.specs.Nests.{run_of}
use Rattle.vr_known.proofs.nests.go_to_next.Given as goal

abbrev pub invariant-loop-run : goal.invariant-loop-run
invariant-loop-run g l = record {
  fits : l.run.end < 4294967296;
  rest : run_of (g.N.Numbered.passes l.run.numbers) (g.N.Numbered.move_at l.run.numbers) l.run.next l.run.end
      ≡ run_of (g.N.Numbered.passes l.initial.run.numbers) (g.N.Numbered.move_at l.initial.run.numbers) l.initial.run.next l.initial.run.end;
}

abbrev pub decreases-loop-run : goal.decreases-loop-run
decreases-loop-run g l = l.run.end - l.run.next
