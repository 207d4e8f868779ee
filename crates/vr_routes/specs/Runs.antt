-- Runs of moves: those that differ in their last number.
use Rattle.std.specs.Prelude.{ℕ}
use Rattle.vr_model.specs.declared.neighbours.Move.{Move}
use Rattle.vr_model.specs.declared.neighbours.Move.TheVariants.{TwoOpt, OrOpt, Relocate, Exchange, Cross, RelocatePair}
use Rattle.vr_model.specs.declared.neighbours.Move.TheVariants.{PairActive, PairInactive, MakeActive, MakeInactive}
use Rattle.vr_model.specs.declared.neighbours.Move.TheVariants.{SwapActive}

-- a move with this last number in place of its own: the one that changes first in the order of the moves of its kind
abbrev pub with_last : Move → ℕ → Move
with_last (TwoOpt v a b) k = TwoOpt v a k
with_last (OrOpt v a n t) k = OrOpt v a n k
with_last (Relocate v a w t) k = Relocate v a w k
with_last (Exchange v a w b) k = Exchange v a w k
with_last (Cross v a w b) k = Cross v a w k
with_last (RelocatePair p w s t) k = RelocatePair p w s k
with_last (PairActive p w s t) k = PairActive p w s k
with_last (PairInactive p) k = PairInactive k
with_last (MakeActive u w t) k = MakeActive u w k
with_last (MakeInactive v a) k = MakeInactive v k
with_last (SwapActive v a u) k = SwapActive v a k
