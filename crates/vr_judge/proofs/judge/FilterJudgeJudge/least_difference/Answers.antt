use Rattle.std.proofs.Common.{rules, sym}
use Rattle.vr_judge.proofs.judge.FilterJudgeJudge.least_difference.Goals as goal

pub least_difference-requires-clause-holds : goal.least_difference-requires-clause-holds
least_difference-requires-clause-holds c = rw (c.deref_mut.ensures.value) c.requires.holds

pub returns-clause-least : goal.returns-clause-least
returns-clause-least c = rw (sym c.deref_mut.ensures.value) (search rules)
