use Rattle.vr_costfilter.specs.Kept.{AreAllKept, AreAsMany}
use Rattle.vr_parts.proofs.SumLemmas.{upto}
use Rattle.vr_costfilter.proofs.all_cumuls.AllCumuls.commit.Given as goal

abbrev pub invariant-loop-k : goal.invariant-loop-k
invariant-loop-k l = record {
  kept : AreAllKept l.closed.model.now (upto l.routes.lists l.change l.k) l.self-inside.dimensions.items;
  as_many : AreAsMany l.fn.self l.self-inside.dimensions.items;
}
