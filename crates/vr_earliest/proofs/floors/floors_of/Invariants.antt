use Rattle.vr_earliest.specs.Floors.{HaveFloors}
use Rattle.vr_earliest.proofs.floors.floors_of.Given as goal

abbrev pub invariant-loop-key : goal.invariant-loop-key
invariant-loop-key l = HaveFloors l.rows l.key l.floors.items
