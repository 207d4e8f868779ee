use Rattle.std.proofs.Common.{◌≡◌, ℕ, ◌<◌, ◌≤◌, true}
use Rattle.vr_known.proofs.nests.end_of_front.Given as goal

-- all numbers so far have a move
abbrev pub invariant-loop-k : goal.invariant-loop-k
invariant-loop-k g l = record { all : (k : ℕ) → l.from ≤ k → k < l.k → g.N.Numbered.passes l.numbers k ≡ true }
