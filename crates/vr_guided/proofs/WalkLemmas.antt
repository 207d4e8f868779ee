-- Walks, and what they add up to.
use Rattle.std.proofs.Common.{◌≡◌, ◌∙◌, ℕ, ◌+◌, ◌*◌, ◌^◌, ◌<◌, ◌≤◌, List, [], ◌∷◌, ◌++◌, length, take, drop, reverse, get_or, refl, sym, ap, subst, arith}
use Rattle.std.specs.Prelude.{ℤ, pos, ◌+ℤ◌, ◌≤ℤ◌, All}
use Rattle.std.proofs.lemmas.Int.{ints}
use Rattle.std.proofs.lemmas.List.{drop_more, take_more, reverse-append}
use Rattle.std.proofs.lemmas.List.Elements.{All-cons, All-head, All-nil, All-tail}
use Rattle.vr_model.specs.search.GuidedSearches.{Penalties}
use Rattle.vr_model.specs.declared.records.Model.{Model}
use Rattle.vr_routes.specs.Pieces.{joined, nodes_of}
use Rattle.vr_routes.proofs.JoinedPieces.{all_left, all_right}
use Rattle.vr_routes.specs.declared.pieces.Piece.{Piece}
use Rattle.vr_guided.specs.declared.walks.Walk.{Walk}
use Rattle.vr_guided.specs.Walks.{arc_weight, stepped, stretch_weight, walked, walk_begun}
use Rattle.vr_balance.specs.Sums.{last_of}
use Rattle.vr_guided.proofs.LocalChanges.{along, last_behind}

-- what holds of each entry of a list and of one more behind it
pub all_push : {X : Type 0} (P : X → Type 0) (xs : List X) (x : X) → All P xs → P x → All P (xs ++ x ∷ [])
all_push P [] x each last = All-cons P x [] last (All-nil P)
all_push P (y ∷ ys) x each last = All-cons P y (ys ++ x ∷ []) (All-head P y ys each) (all_push P ys x (All-tail P y ys each) last)

-- what holds of each entry of a reversed list holds of each entry of the list
pub all_unreversed : {X : Type 0} (P : X → Type 0) (xs : List X) → All P (reverse xs) → All P xs
all_unreversed P [] h = h
all_unreversed P (x ∷ xs) h = let parts = subst (λ zs. All P zs) (reverse-append (x ∷ []) xs) h in
    All-cons P x xs (All-head P x [] (all_right P (reverse xs) (x ∷ []) parts)) (all_unreversed P xs (all_left P (reverse xs) (x ∷ []) parts))

-- the first of some nodes, where one more stands behind them
pub some_next : (nodes : List ℕ) (end : ℕ) → (next : ℕ) × ((others : List ℕ) × (nodes ++ end ∷ [] ≡ next ∷ others))
some_next [] end = (end, ([], refl))
some_next (x ∷ xs) end = (x, (xs ++ end ∷ [], refl))

-- the last of the first few nodes
pub last_taken : (x : ℕ) (nodes : List ℕ) (k : ℕ) → k < length nodes → last_of x (take (k + 1) nodes) ≡ get_or nodes k 0
last_taken x nodes k low = ap (last_of x) (take_more nodes k 0 low) ∙ last_behind x (get_or nodes k 0) (take k nodes)

-- the next piece, and the others
pub pieces_onward : (lists : List (List ℕ)) (pieces : List Piece) (i : ℕ) (d : Piece) → i < length pieces
    → joined lists (drop i pieces) ≡ nodes_of lists (get_or pieces i d) ++ joined lists (drop (i + 1) pieces)
pieces_onward lists pieces i d low = ap (joined lists) (drop_more pieces i d low)

module _ (model : Model) (p : Penalties) (v : ℕ) where
  -- first through some nodes, then through others
  pub walked_more : (walk : Walk) (xs ys : List ℕ) → walked model p v walk (xs ++ ys) ≡ walked model p v (walked model p v walk xs) ys
  walked_more walk [] ys = refl
  walked_more walk (x ∷ xs) ys = walked_more (stepped model p v walk x) xs ys

  -- from the end of a list to its front
  pub walked_back : (walk : Walk) (nodes : List ℕ) (k d : ℕ) → k < length nodes
      → walked model p v walk (reverse (take (k + 1) nodes)) ≡ walked model p v (stepped model p v walk (get_or nodes k d)) (reverse (take k nodes))
  walked_back walk nodes k d low = ap (λ xs. walked model p v walk (reverse xs)) (take_more nodes k d low)
      ∙ ap (walked model p v walk) (reverse-append (take k nodes) (get_or nodes k d ∷ []))

  pub arcs_walked : (walk : Walk) (nodes : List ℕ) → (walked model p v walk nodes).arcs ≡ walk.arcs + length nodes
  arcs_walked walk [] = omega arith
  arcs_walked walk (x ∷ xs) = let h = arcs_walked (stepped model p v walk x) xs in omega (arith, h)

  pub node_walked : (walk : Walk) (nodes : List ℕ) → (walked model p v walk nodes).at ≡ last_of walk.at nodes
  node_walked walk [] = refl
  node_walked walk (x ∷ xs) = node_walked (stepped model p v walk x) xs

  pub total_walked : (walk : Walk) (nodes : List ℕ) → (walked model p v walk nodes).total ≡ walk.total +ℤ along (arc_weight model p) v walk.at nodes
  total_walked walk [] = omega (arith, ints)
  total_walked walk (x ∷ xs) = let h = total_walked (stepped model p v walk x) xs in omega (arith, ints, h)

  -- the total of a walk from a node through nodes to a last one
  pub total_to : (from next : ℕ) (nodes : List ℕ)
      → (stepped model p v (walked model p v (walk_begun from) nodes) next).total ≡ along (arc_weight model p) v from (nodes ++ next ∷ [])
  total_to from next nodes = ap (λ walk. walk.total) (sym (walked_more (walk_begun from) nodes (next ∷ [])))
      ∙ (total_walked (walk_begun from) (nodes ++ next ∷ []) ∙ nothing (along (arc_weight model p) v from (nodes ++ next ∷ [])))
    where
      nothing : (x : ℤ) → pos 0 +ℤ x ≡ x
      nothing x = omega (arith, ints)

  module _ (from next : ℕ) (nodes : List ℕ) (walk last : Walk)
      (goes : walk ≡ walked model p v (walk_begun from) nodes) (ends : last ≡ stepped model p v walk next) where
    pub stretch_arcs : walk.arcs ≡ length nodes
    stretch_arcs = let arcs = ap (λ w. w.arcs) goes ∙ arcs_walked (walk_begun from) nodes in omega (arith, arcs)

    pub stretch_total : last.total ≡ stretch_weight model p v from nodes next
    stretch_total = ap (λ w. w.total) (ends ∙ ap (λ w. stepped model p v w next) goes) ∙ total_to from next nodes

    pub stretch_high : length nodes ≤ 1000 → last.total ≤ℤ pos (last.arcs * 2 ^ 70) → last.total ≤ℤ pos (1001 * 2 ^ 70)
    stretch_high short high =
        let arcs = stretch_arcs in
        let more = ap (λ w. w.arcs) ends in
        let few : last.arcs * 2 ^ 70 ≤ 1001 * 2 ^ 70 = omega (arith, arcs, more, short) in
        omega (arith, ints, few, high)
