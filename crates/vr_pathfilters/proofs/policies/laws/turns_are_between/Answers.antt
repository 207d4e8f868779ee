use Rattle.vr_pathfilters.proofs.Replacing.{turns_are_between}
use Rattle.vr_pathfilters.proofs.policies.laws.turns_are_between.Goals as goal

pub returns : goal.returns
returns c = turns_are_between
