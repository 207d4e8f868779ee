-- A scan of a list of moves for the first that is acceptable.
use Rattle.std.specs.Prelude.{ℕ, suc, Bool, cond, nat_lt, nat_le, List, [], ◌∷◌}
use Rattle.vr_model.specs.declared.neighbours.Move.{Move}

-- How a scan ends. It accepts the first acceptable move, at its place from 1. It is complete after this many moves, of
-- which none is acceptable. Or it is cut, if no try is left.
pub data Scan : Type 0 where
  Accepted : ℕ → Move → Scan
  Complete : ℕ → Scan
  Cut : Scan

-- The scan of the moves after the first `place` ones, of which none was acceptable. At most `rest` moves in all may be
-- tried.
abbrev pub scan_from : ℕ → (Move → Bool) → ℕ → List Move → Scan
scan_from place acceptable rest [] = cond (nat_lt rest place) Cut (Complete place)
scan_from place acceptable rest (m ∷ ms) =
    cond (acceptable m) (cond (nat_le (suc place) rest) (Accepted (suc place) m) Cut)
    (scan_from (suc place) acceptable rest ms)

-- the scan of a list of moves of which at most `rest` may be tried
abbrev pub scan : List Move → (Move → Bool) → ℕ → Scan
scan ms acceptable rest = scan_from 0 acceptable rest ms
