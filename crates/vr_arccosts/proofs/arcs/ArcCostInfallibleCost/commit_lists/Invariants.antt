use Rattle.std.proofs.Common.{◌≡◌, length}
use Rattle.vr_arccosts.specs.Along.{AreAlong}
use Rattle.vr_parts.proofs.SumLemmas.{upto}
use Rattle.vr_arccosts.proofs.arcs.ArcCostInfallibleCost.commit_lists.Given as goal

abbrev pub invariant-loop-k : goal.invariant-loop-k
invariant-loop-k l = record {
  many : length l.self-inside.along.items ≡ length l.fn.self.along;
  model : l.self-inside.model.now ≡ l.fn.self.model;
  along : AreAlong l.self-inside.model.now (upto l.routes.lists l.change l.k) l.self-inside.along.items;
}
