use Rattle.vr_earliest.specs.Floors.{AreFree}
use Rattle.vr_earliest.proofs.floors.free_of.Given as goal

abbrev pub invariant-loop-v : goal.invariant-loop-v
invariant-loop-v l = AreFree l.vehicles l.dimension l.v l.free.items
