use Rattle.vr_judge.proofs.judging.JudgingJudge.least_difference.Goals as goal

pub least-requires-clause-stands : goal.least-requires-clause-stands
least-requires-clause-stands g c = c.requires.holds.committed.costs_stand
