-- Whether a move is one of given lists, as a test on its numbers alone.
use Rattle.std.specs.Prelude.{ℕ, ◌-◌, Bool, not, ◌&&◌, ◌||◌, ◌==◌, nat_lt, nat_le, List, length, IsTrue, ◌↔◌}
use Rattle.std.specs.List.{Contains}
use Rattle.vr_model.specs.tables.Tables.{pair_at, is_visit}
use Rattle.vr_model.specs.routes.Routes.{route, is_active}
use Rattle.vr_model.specs.moves.Moves.{without_pair, is_pair_served, is_pair_together, is_pair_inactive, has_chain}
use Rattle.vr_model.specs.moves.Moves.{is_other, has_some_front, changes_the_list, all_neighbourhoods, moves_over}
use Rattle.vr_model.specs.declared.records.Model.{Model}
use Rattle.vr_model.specs.declared.neighbours.Move.{Move}
use Rattle.vr_model.specs.declared.neighbours.Move.TheVariants.{TwoOpt, OrOpt, Relocate, Exchange, Cross, RelocatePair}
use Rattle.vr_model.specs.declared.neighbours.Move.TheVariants.{PairActive, PairInactive, MakeActive, MakeInactive}
use Rattle.vr_model.specs.declared.neighbours.Move.TheVariants.{SwapActive}

-- v is a vehicle of the lists
abbrev pub is_vehicle : List (List ℕ) → ℕ → Bool
is_vehicle lists v = nat_lt v (length lists)

-- a is a place of the list of v
abbrev pub is_place : List (List ℕ) → ℕ → ℕ → Bool
is_place lists v a = nat_lt a (length (route lists v))

-- t is a place of the list of v or its end
abbrev pub is_gap : List (List ℕ) → ℕ → ℕ → Bool
is_gap lists v t = nat_le t (length (route lists v))

-- u is a visit that is in no list
abbrev pub is_inactive : Model → List (List ℕ) → ℕ → Bool
is_inactive model lists u = is_visit model u && not (is_active lists u)

-- There are a pair p and a vehicle w. In a list of length n, s and t are places or the end, and t does not come before
-- s.
abbrev pub may_put_pair : Model → List (List ℕ) → ℕ → ℕ → ℕ → ℕ → ℕ → Bool
may_put_pair model lists p w n s t = nat_lt p (length model.pairs) && (is_vehicle lists w && (nat_le s t && nat_le t n))

-- the numbers of the move meet the condition of its neighbourhood
abbrev pub is_move : Model → List (List ℕ) → Move → Bool
is_move model lists (TwoOpt v a b) = is_vehicle lists v && (nat_lt a b && is_place lists v b)
is_move model lists (OrOpt v a k t) = is_vehicle lists v
    && ((nat_le 1 k && nat_le k 3)
    && (has_chain (route lists v) a k && (nat_le t (length (route lists v) - k) && is_other a t)))
is_move model lists (Relocate v a w t) =
    is_vehicle lists v && (is_vehicle lists w && (is_other v w && (is_place lists v a && is_gap lists w t)))
is_move model lists (Exchange v a w b) =
    is_vehicle lists v
    && (is_vehicle lists w && (is_place lists v a && (is_place lists w b && (nat_lt v w || ((v == w) && nat_lt a b)))))
is_move model lists (Cross v a w b) =
    is_vehicle lists w && (nat_lt v w && (is_gap lists v a && (is_gap lists w b && has_some_front a b)))
is_move model lists (RelocatePair p w s t) = let rest = without_pair (pair_at model p) (route lists w) in
    is_pair_served model lists p
    && (may_put_pair model lists p w (length rest) s t
    && changes_the_list (pair_at model p) (route lists w) rest s t)
is_move model lists (PairActive p w s t) =
    is_pair_inactive model lists p && may_put_pair model lists p w (length (route lists w)) s t
is_move model lists (PairInactive p) = nat_lt p (length model.pairs) && is_pair_together model lists p
is_move model lists (MakeActive u w t) = is_inactive model lists u && (is_vehicle lists w && is_gap lists w t)
is_move model lists (MakeInactive v a) = is_vehicle lists v && is_place lists v a
is_move model lists (SwapActive v a u) = is_vehicle lists v && (is_place lists v a && is_inactive model lists u)

-- the test passes exactly at the moves of all neighbourhoods
abbrev pub MovesAsTested : Type 0
MovesAsTested =
    (model : Model) (lists : List (List ℕ)) (mv : Move) → Contains (moves_over model all_neighbourhoods lists) mv
    ↔ IsTrue (is_move model lists mv)
