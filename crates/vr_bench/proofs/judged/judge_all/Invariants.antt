use Rattle.std.proofs.Common.{◌≡◌}
use Rattle.vr_bench.proofs.judged.judge_all.Given as goal

abbrev pub invariant-loop-mv : goal.invariant-loop-mv
invariant-loop-mv g l = record {
  model : g.J.Judge.model l.judge ≡ g.J.Judge.model l.initial.judge;
  committed : g.J.Judge.committed l.judge l.routes;
}
