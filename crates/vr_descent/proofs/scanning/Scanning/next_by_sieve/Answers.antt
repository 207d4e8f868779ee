use Rattle.std.proofs.Common.{◌∙◌, sym}
use Rattle.vr_descent.proofs.scanning.Scanning.next_by_sieve.Goals as goal

pub returns-clause-model : goal.returns-clause-model
returns-clause-model g c = c.step.ensures.looked.ready.judge_model ∙ sym c.requires.can_judge.judge_model

pub returns-clause-committed : goal.returns-clause-committed
returns-clause-committed g c = c.step.ensures.looked.ready.holds.committed

pub returns-clause-asked : goal.returns-clause-asked
returns-clause-asked g c = c.step.ensures.looked.judges_none

pub returns-clause-looked : goal.returns-clause-looked
returns-clause-looked g c = c.step.ensures.looked.followed
