use Rattle.std.proofs.Common.{take}
use Rattle.vr_balance.specs.Balances.{IsNoneOf}
use Rattle.vr_balance.proofs.balance.place_of.Given as goal

-- it is none of the pieces so far
abbrev pub invariant-loop-k : goal.invariant-loop-k
invariant-loop-k l = IsNoneOf (take l.k l.pieces) l.piece
