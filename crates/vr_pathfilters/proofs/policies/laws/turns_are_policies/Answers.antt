use Rattle.vr_pathfilters.proofs.Turning.{turns_are_policies}
use Rattle.vr_pathfilters.proofs.policies.laws.turns_are_policies.Goals as goal

pub returns : goal.returns
returns c = turns_are_policies
