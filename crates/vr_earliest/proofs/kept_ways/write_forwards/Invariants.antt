use Rattle.std.proofs.Common.{◌≡◌, ◌≤◌, ℕ, take}
use Rattle.std.specs.Prelude.{fold}
use Rattle.vr_earliest.specs.Entries.{AreWaysTo}
use Rattle.vr_earliest.proofs.kept_ways.write_forwards.Given as goal

abbrev pub invariant-loop-k : goal.invariant-loop-k
invariant-loop-k g l = record {
  ways : AreWaysTo (g.G.Walk.start_way l.guide) (g.G.Walk.way_on l.guide) l.list l.k l.ways.items;
  way : l.way ≡ fold (g.G.Walk.way_on l.guide) (g.G.Walk.start_way l.guide) (take l.k l.list);
  range : (n : ℕ) → l.k ≤ n → g.G.Walk.is_way l.guide n l.way;
}
