-- Pieces that are joined one after the other, and what holds of all their nodes.
use Rattle.std.proofs.Common.{◌≡◌, ◌∙◌, ℕ, ◌+◌, ◌<◌, List, [], ◌∷◌, ◌++◌, length, take, drop, refl, sym, ap, subst, add-one, arith}
use Rattle.std.specs.Prelude.{◌==◌, slice_index_or, All}
use Rattle.std.proofs.lemmas.List.{append-nil, take-append-drop}
use Rattle.std.proofs.lemmas.List.Elements.{All-take, All-drop}
use Rattle.std.proofs.lemmas.Grind.{flat_map-append}
use Rattle.std.proofs.Math.Seq.{take-suc, take-append_seam, drop-append_seam}
use Rattle.vr_model.specs.routes.Routes.{is_empty}
use Rattle.vr_routes.specs.declared.pieces.Piece.{Piece}
use Rattle.vr_routes.specs.Pieces.{joined, nodes_of}

-- the nodes of one piece more
pub joined_next : (lists : List (List ℕ)) (pieces : List Piece) (k : ℕ) (other : Piece) → k < length pieces
    → joined lists (take (k + 1) pieces) ≡ joined lists (take k pieces) ++ nodes_of lists (slice_index_or pieces k other)
joined_next lists pieces k other low =
    ap (λ n. joined lists (take n pieces)) (add-one k) ∙ ap (joined lists) (take-suc pieces k other low)
    ∙ flat_map-append (nodes_of lists) (take k pieces) (slice_index_or pieces k other ∷ [])
    ∙ ap (λ l. joined lists (take k pieces) ++ l) (append-nil (nodes_of lists (slice_index_or pieces k other)))

-- the nodes of the first pieces, and of the rest
pub joined_rest : (lists : List (List ℕ)) (pieces : List Piece) (k : ℕ) → joined lists pieces ≡ joined lists (take k pieces) ++ joined lists (drop k pieces)
joined_rest lists pieces k = ap (joined lists) (sym (take-append-drop k pieces)) ∙ flat_map-append (nodes_of lists) (take k pieces) (drop k pieces)

-- what holds of all of two lists holds of each
pub all_left : {X : Type 0} (P : X → Type 0) (xs ys : List X) → All P (xs ++ ys) → All P xs
all_left P xs ys h = subst (λ zs. All P zs) (take-append_seam xs ys) (All-take P (length xs) (xs ++ ys) h)

pub all_right : {X : Type 0} (P : X → Type 0) (xs ys : List X) → All P (xs ++ ys) → All P ys
all_right P xs ys h = subst (λ zs. All P zs) (drop-append_seam xs ys) (All-drop P (length xs) (xs ++ ys) h)

-- what holds of all nodes holds of those of the first pieces, and of those of one piece
pub all_so_far : (P : ℕ → Type 0) (lists : List (List ℕ)) (pieces : List Piece) (k : ℕ) → All P (joined lists pieces) → All P (joined lists (take k pieces))
all_so_far P lists pieces k h = all_left P (joined lists (take k pieces)) (joined lists (drop k pieces)) (subst (λ xs. All P xs) (joined_rest lists pieces k) h)

pub all_at : (P : ℕ → Type 0) (lists : List (List ℕ)) (pieces : List Piece) (k : ℕ) (other : Piece)
    → k < length pieces → All P (joined lists pieces) → All P (nodes_of lists (slice_index_or pieces k other))
all_at P lists pieces k other low h =
    all_right P (joined lists (take k pieces)) (nodes_of lists (slice_index_or pieces k other))
    (subst (λ xs. All P xs) (joined_next lists pieces k other low) (all_so_far P lists pieces (k + 1) h))

-- a list is empty where it has no length
pub empty_by_length : (list : List ℕ) → (length list == 0) ≡ is_empty list
empty_by_length [] = refl
empty_by_length (x ∷ xs) = Prim.grind arith
