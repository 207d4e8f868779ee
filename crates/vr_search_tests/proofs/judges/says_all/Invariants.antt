use Rattle.vr_descent.specs.Refused.{CanJudge}
use Rattle.vr_search_tests.proofs.judges.says_all.Given as goal

-- the judge holds the lists so far
abbrev pub invariant-loop-mv : goal.invariant-loop-mv
invariant-loop-mv g l = record {
  judge : CanJudge l.closed.model.now l.routes (g.J.Judge.model l.judge) (g.J.Judge.committed l.judge);
}
