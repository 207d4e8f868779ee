-- Pieces that are none of others.
use Rattle.std.proofs.Common.{◌<◌, ◌-◌, ℕ, List, length, sym, arith}
use Rattle.std.specs.Prelude.{All, slice_index_or, slice_set}
use Rattle.std.specs.List.{swap_remove}
use Rattle.std.proofs.lemmas.List.Elements.{All-set, All-take}
use Rattle.vr_routes.specs.declared.pieces.Piece.{Piece}
use Rattle.vr_balance.specs.Balances.{IsNoneOf}

-- where none of some pieces is one of others, none of the others is one of them
pub apart-other : (xs ys : List Piece) → All (IsNoneOf ys) xs → All (IsNoneOf xs) ys
apart-other xs ys apart j e low i d less = λ same. apart i d less j e low (sym same)

-- what holds of all holds of those that are left
pub All-swap_remove : (P : Piece → Type 0) (xs : List Piece) (k : ℕ) (d : Piece) → k < length xs → All P xs → All P (swap_remove xs k d)
All-swap_remove P xs k d low all =
    let last : P (slice_index_or xs (length xs - 1) d) = all (length xs - 1) d (omega (arith, low)) in
    All-take P (length xs - 1) (slice_set xs k (slice_index_or xs (length xs - 1) d)) (All-set P xs k (slice_index_or xs (length xs - 1) d) last all)
