use Rattle.vr_first_savings.proofs.FewerRoutes.{merging_ends}
use Rattle.vr_first_savings.proofs.laws.merging_ends.Goals as goal

pub returns : goal.returns
returns c = merging_ends
