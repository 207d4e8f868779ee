use Rattle.std.proofs.Common.{◌≡◌}
use Rattle.vr_bench.proofs.judged.report_judge.Given as goal

abbrev pub invariant-loop : goal.invariant-loop
invariant-loop g l = record {
  model : g.J.Judge.model l.judge ≡ g.J.Judge.model l.initial.judge;
  committed : g.J.Judge.committed l.judge l.routes;
}
