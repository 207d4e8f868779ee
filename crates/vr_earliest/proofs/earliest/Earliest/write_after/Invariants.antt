use Rattle.vr_earliest.proofs.EarlyLemmas.{AreTold}
use Rattle.vr_earliest.proofs.earliest.Earliest.write_after.Given as goal

-- the dimensions so far are told
abbrev pub invariant-loop-d : goal.invariant-loop-d
invariant-loop-d l = AreTold l.self.model l.routes.lists l.change l.d l.out
