use Rattle.std.proofs.Common.{◌≡◌}
use Rattle.vr_earliest.specs.Floors.{AreAllFloors}
use Rattle.vr_earliest.specs.Kept.{HaveAllWays}
use Rattle.vr_parts.proofs.SumLemmas.{upto}
use Rattle.vr_earliest.proofs.earliest.Earliest.commit.Given as goal

abbrev pub invariant-loop-k : goal.invariant-loop-k
invariant-loop-k l = record {
  model : l.self-inside.model.now ≡ l.fn.self.model;
  floors : AreAllFloors l.self-inside.model.now l.self-inside.floors.items;
  kept : HaveAllWays l.self-inside.model.now (upto l.routes.lists l.change l.k) l.self-inside.kept.items;
}
