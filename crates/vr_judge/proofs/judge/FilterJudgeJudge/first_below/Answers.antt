use Rattle.std.proofs.Common.{rules, sym}
use Rattle.vr_judge.proofs.judge.FilterJudgeJudge.first_below.Goals as goal

pub first_below-requires-clause-holds : goal.first_below-requires-clause-holds
first_below-requires-clause-holds c = rw (c.deref_mut.ensures.value) c.requires.holds

pub returns-clause-no_less : goal.returns-clause-no_less
returns-clause-no_less c = rw (sym c.deref_mut.ensures.value) (search rules)
