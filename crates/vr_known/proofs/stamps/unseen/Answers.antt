use Rattle.vr_known.proofs.MemoryLemmas.{zeros}
use Rattle.vr_known.proofs.stamps.unseen.Goals as goal

pub returns : goal.returns
returns c i = zeros 1504 i
