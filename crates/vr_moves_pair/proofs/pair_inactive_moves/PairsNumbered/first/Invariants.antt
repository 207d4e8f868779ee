use Rattle.std.proofs.Common.{ℕ, ◌<◌, ◌≤◌}
use Rattle.vr_model.specs.declared.neighbours.Move.TheVariants.{PairInactive}
use Rattle.vr_moves_pair.proofs.pair_inactive_moves.PairsNumbered.first.Given as goal

-- the pairs so far can be passed over
abbrev pub invariant-loop-k : goal.invariant-loop-k
invariant-loop-k g l = record {
  passed : (j : ℕ) → l.from ≤ j → j < l.k → g.S.Sieve.covers l.sieve (PairInactive j);
}
