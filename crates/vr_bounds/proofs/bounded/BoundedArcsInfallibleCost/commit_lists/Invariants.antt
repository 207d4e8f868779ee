use Rattle.std.proofs.Common.{◌≡◌, length}
use Rattle.vr_parts.proofs.SumLemmas.{upto}
use Rattle.vr_bounds.specs.Kept.{AreAllPuts}
use Rattle.vr_bounds.proofs.bounded.BoundedArcsInfallibleCost.commit_lists.Given as goal

abbrev pub invariant-loop-k : goal.invariant-loop-k
invariant-loop-k l = record {
  many : length l.self-inside.puts.items ≡ length l.fn.self.puts;
  model : l.self-inside.model.now ≡ l.fn.self.model;
  arcs : l.self-inside.arcs ≡ l.fn.self.arcs;
  puts : AreAllPuts l.self-inside.model.now (upto l.routes.lists l.change l.k) l.self-inside.puts.items;
}
