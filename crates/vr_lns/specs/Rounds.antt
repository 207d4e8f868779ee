-- A round of cuts: the cuts of lists are tried in order, up to the first that is acceptable.
use Rattle.std.specs.Prelude.{ℕ, suc, cond, nat_lt, nat_le, List, [], ◌∷◌, Option, Some, None}
use Rattle.vr_model.specs.declared.records.Model.{Model}
use Rattle.vr_lns.specs.Cuts.{accepted_by, cuts}
use Rattle.vr_lns.specs.declared.cutting.Cut.{Cut}

-- how a round ends. It is Accepted at the first acceptable cut, with its place from 1 and its result. It is Complete
-- with the number of cuts if none of them is acceptable. It is Short for want of tries.
pub data Round : Type 0 where
  Accepted : ℕ → List (List ℕ) → Round
  Complete : ℕ → Round
  Short : Round

-- how a round ends at a cut after `place` others. If the cut is acceptable, it ends at its result or for want of tries;
-- else it ends as the cuts after it do.
abbrev pub ends_at : ℕ → ℕ → Option (List (List ℕ)) → Round → Round
ends_at place rest None behind = behind
ends_at place rest (Some after) behind = cond (nat_le (suc place) rest) (Accepted (suc place) after) Short

-- the round of the cuts after the first `place` ones, of which none was acceptable
abbrev pub round_from : ℕ → (Cut → Option (List (List ℕ))) → ℕ → List Cut → Round
round_from place accepted rest [] = cond (nat_lt rest place) Short (Complete place)
round_from place accepted rest (c ∷ cs) = ends_at place rest (accepted c) (round_from (suc place) accepted rest cs)

-- the round of all cuts of lists, of which at most `rest` may be tried
abbrev pub round : Model → ℕ → List (List ℕ) → ℕ → Round
round model most lists rest = round_from 0 (accepted_by model most lists) rest (cuts lists)
