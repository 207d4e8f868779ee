use Rattle.std.proofs.Common.{◌≡◌, ◌≤◌, ◌-◌, ℕ, drop, length}
use Rattle.vr_earliest.specs.Entries.{back_from, AreRestsTo}
use Rattle.vr_earliest.proofs.kept_ways.write_backwards.Given as goal

abbrev pub invariant-loop-k : goal.invariant-loop-k
invariant-loop-k g l = record {
  rests : AreRestsTo (g.G.Walk.end_rest l.guide) (g.G.Walk.rest_from l.guide) l.list l.k l.rests.items;
  rest : l.rest ≡ back_from (g.G.Walk.end_rest l.guide) (g.G.Walk.rest_from l.guide) (drop (length l.list - l.k) l.list);
  range : (n : ℕ) → l.k ≤ n → g.G.Walk.is_rest l.guide n l.rest;
}
