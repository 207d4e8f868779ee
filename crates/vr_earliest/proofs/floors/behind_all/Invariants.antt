use Rattle.std.proofs.Common.{◌≡◌, take}
use Rattle.std.specs.Prelude.{pos, fold}
use Rattle.vr_model.specs.tables.WellFormed.{IsIn}
use Rattle.vr_earliest.specs.Floors.{behind_interval}
use Rattle.vr_earliest.proofs.floors.behind_all.Given as goal

abbrev pub invariant-loop-k : goal.invariant-loop-k
invariant-loop-k l = record {
  value : l.x ≡ fold behind_interval l.fn.from (take l.k l.intervals);
  range : IsIn (pos 0) (pos 68719476737) l.x;
}
