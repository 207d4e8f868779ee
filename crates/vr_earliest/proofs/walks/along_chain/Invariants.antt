use Rattle.std.proofs.Common.{◌≡◌, ◌+◌, ℕ, cond, reverse, take}
use Rattle.std.specs.Prelude.{fold}
use Rattle.vr_earliest.proofs.walks.along_chain.Given as goal

abbrev pub invariant-loop-k : goal.invariant-loop-k
invariant-loop-k g l = record {
  value : l.gone ≡ fold (g.G.Walk.way_on l.walk) l.fn.way (take l.k (cond l.reversed (reverse l.chain) l.chain));
  range : (n : ℕ) → g.G.Walk.is_way l.walk n l.fn.way → g.G.Walk.is_way l.walk (n + l.k) l.gone;
}
