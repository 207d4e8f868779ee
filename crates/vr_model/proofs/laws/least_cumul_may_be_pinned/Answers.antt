use Rattle.vr_model.proofs.schedules.Narrowing.{least_cumul_may_be_pinned}
use Rattle.vr_model.proofs.laws.least_cumul_may_be_pinned.Goals as goal

pub returns : goal.returns
returns c = least_cumul_may_be_pinned
