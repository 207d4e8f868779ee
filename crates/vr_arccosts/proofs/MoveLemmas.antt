-- What moves add to arc costs, by the stretches of lists that they change.
use Rattle.std.proofs.Common.{◌≡◌, ◌≢◌, ◌∙◌, ℕ, suc, ◌+◌, ◌<◌, ◌≤◌, Bool, true, false, List, [], ◌∷◌, ◌++◌, length, reverse, take, drop, sym, ap, subst, arith}
use Rattle.std.proofs.Common.{add-one, append_assoc, append-nil, length-set}
use Rattle.std.proofs.lemmas.Int.{ints}
use Rattle.std.specs.Prelude.{◌+ℤ◌, slice_index_or, slice_range, slice_set, remove, All}
use Rattle.std.proofs.lemmas.List.Elements.{All-append, All-cons, All-nil}
use Rattle.std.proofs.lemmas.Slice.{between_from_start}
use Rattle.std.proofs.lemmas.List.{reverse-reverse, set_split}
use Rattle.vr_model.specs.moves.Moves.{apply, chain_moved, reversed_between, with_route}
use Rattle.vr_model.specs.routes.Costs.{arcs_part}
use Rattle.vr_model.specs.routes.Routes.{route, route_cost}
use Rattle.vr_model.specs.declared.records.Model.{Model}
use Rattle.vr_model.specs.declared.neighbours.Move.{Move}
use Rattle.vr_model.proofs.routes.Lists.{route_set_other}
use Rattle.vr_routes.specs.Pieces.{joined, nodes_of, IsWithin}
use Rattle.vr_routes.specs.declared.pieces.Piece.{Piece}
use Rattle.vr_routes.specs.declared.pieces.Piece.TheVariants.{Chain, Node}
use Rattle.vr_routes.proofs.JoinedPieces.{all_at, all_left, all_right}
use Rattle.vr_routes.proofs.PieceLemmas.{moved_back, moved_on, slice_to_end, swapped_joined}
use Rattle.vr_arccosts.specs.ArcMoves.{arcs_added, costs_more, with_between, IsKnownPiece}
use Rattle.vr_arccosts.proofs.PathLemmas.{whole-apart}
use Rattle.vr_arccosts.proofs.PieceLemmas.{all-reversed}
use Rattle.vr_parts.proofs.SumLemmas.{over-set}

-- ---- the nodes of a chain are some of its list

slice-all : (P : ℕ → Type 0) (list : List ℕ) (f t : ℕ) → f ≤ t → All P list → All P (slice_range list f t)
slice-all P list f t order h =
    let whole : All P (take f list ++ (slice_range list f t ++ drop t list)) = subst (All P) (sym (whole-apart list f t order)) h in
    all_left P (slice_range list f t) (drop t list) (all_right P (take f list) (slice_range list f t ++ drop t list) whole)

chain-all : (P : ℕ → Type 0) (lists : List (List ℕ)) (v f t : ℕ) (back : Bool) → f ≤ t → All P (route lists v) → All P (nodes_of lists (Chain v f t back))
chain-all P lists v f t false order h = slice-all P (route lists v) f t order h
chain-all P lists v f t true order h =
    let chain : List ℕ = slice_range (route lists v) f t in
    all-reversed P (reverse chain) (subst (All P) (sym (reverse-reverse chain)) (slice-all P (route lists v) f t order h))

-- ---- pieces that are known

known-within : (model : Model) (lists : List (List ℕ)) (piece : Piece) → IsKnownPiece model lists piece → IsWithin lists piece
known-within model lists (Chain v f t back) known = known
known-within model lists (Node node) known = tt

known-nodes : (model : Model) (lists : List (List ℕ)) → ((v : ℕ) → All (λ node. node < model.nodes) (route lists v))
    → (piece : Piece) → IsKnownPiece model lists piece → All (λ node. node < model.nodes) (nodes_of lists piece)
known-nodes model lists below (Chain v f t back) known = chain-all (λ node. node < model.nodes) lists v f t back known.1 (below v)
known-nodes model lists below (Node node) known = All-cons (λ node. node < model.nodes) node [] known (All-nil (λ node. node < model.nodes))

pub pieces-within : (model : Model) (lists : List (List ℕ)) (pieces : List Piece) → All (IsKnownPiece model lists) pieces → All (IsWithin lists) pieces
pieces-within model lists pieces h k d low = known-within model lists (slice_index_or pieces k d) (h k d low)

pub pieces-below : (model : Model) (lists : List (List ℕ)) → ((v : ℕ) → All (λ node. node < model.nodes) (route lists v))
    → (pieces : List Piece) → All (IsKnownPiece model lists) pieces → All (λ node. node < model.nodes) (joined lists pieces)
pieces-below model lists below [] h = All-nil (λ node. node < model.nodes)
pieces-below model lists below (piece ∷ pieces) h =
    All-append (λ node. node < model.nodes) (nodes_of lists piece) (joined lists pieces) (known-nodes model lists below piece (h 0 piece (omega arith)))
    (pieces-below model lists below pieces (λ k d low. h (suc k) d (omega (arith, low))))

one-known : (model : Model) (lists : List (List ℕ)) (piece : Piece) → IsWithin lists piece
    → All (λ node. node < model.nodes) (nodes_of lists piece) → IsKnownPiece model lists piece
one-known model lists (Chain v f t back) within nodes = within
one-known model lists (Node node) within nodes = nodes 0 0 (omega arith)

pub pieces-known : (model : Model) (lists : List (List ℕ)) (pieces : List Piece) → All (IsWithin lists) pieces
    → All (λ node. node < model.nodes) (joined lists pieces) → All (IsKnownPiece model lists) pieces
pieces-known model lists pieces within nodes k d low =
    one-known model lists (slice_index_or pieces k d) (within k d low) (all_at (λ node. node < model.nodes) lists pieces k d low nodes)

-- ---- the list after a move, by the nodes that stand between what it keeps at its ends

module _ (list : List ℕ) where
  tail-one : (f a : ℕ) (nodes : List ℕ) → with_between list f (a + 1) nodes ≡ with_between list f (suc a) nodes
  tail-one f a nodes = ap (λ e. with_between list f e nodes) (add-one a)

  pub turned-list : (a b : ℕ) → with_between list a (b + 1) (reverse (slice_range list a (b + 1)) ++ []) ≡ reversed_between list a (suc b)
  turned-list a b =
      ap (with_between list a (b + 1)) (append-nil (reverse (slice_range list a (b + 1))))
      ∙ ap (λ e. with_between list a e (reverse (slice_range list a e))) (add-one b)

  pub without-one : (a : ℕ) → with_between list a (a + 1) [] ≡ remove list a
  without-one a = tail-one a a []

  pub with-other : (a x : ℕ) → a < length list → with_between list a (a + 1) (x ∷ []) ≡ slice_set list a x
  with-other a x low = tail-one a a (x ∷ []) ∙ sym (set_split list a x low)

  -- three slices in one another's place
  three : (front one two : List ℕ) (a : ℕ) → take a list ≡ front → (e : ℕ)
      → with_between list a e (one ++ (two ++ [])) ≡ ((front ++ one) ++ two) ++ slice_range list e (length list)
  three front one two a is e =
      ap (λ l. l ++ ((one ++ (two ++ [])) ++ drop e list)) is
      ∙ ap (λ l. front ++ ((one ++ l) ++ drop e list)) (append-nil two)
      ∙ ap (λ l. front ++ l) (append_assoc one two (drop e list))
      ∙ sym (append_assoc front one (two ++ drop e list))
      ∙ sym (append_assoc (front ++ one) two (drop e list))
      ∙ ap (λ l. ((front ++ one) ++ two) ++ l) (sym (slice_to_end list e))

  pub shifted-back : (a k t : ℕ) → t < a → a ≤ length list
      → with_between list t (a + k) (slice_range list a (a + k) ++ (slice_range list t a ++ [])) ≡ chain_moved list a k t
  shifted-back a k t low within =
      three (slice_range list 0 t) (slice_range list a (a + k)) (slice_range list t a) t (sym (between_from_start list t)) (a + k)
      ∙ moved_back list a k t low within

  pub shifted-on : (a k t : ℕ) → a ≤ t → t + k ≤ length list
      → with_between list a (t + k) (slice_range list (a + k) (t + k) ++ (slice_range list a (a + k) ++ [])) ≡ chain_moved list a k t
  shifted-on a k t low within =
      three (slice_range list 0 a) (slice_range list (a + k) (t + k)) (slice_range list a (a + k)) a (sym (between_from_start list a)) (t + k)
      ∙ moved_on list a k t low within

  pub swapped-list : (a b y x : ℕ) → a < b → b < length list
      → with_between list a (b + 1) (y ∷ (slice_range list (a + 1) b ++ x ∷ [])) ≡ slice_set (slice_set list a y) b x
  swapped-list a b y x order low =
      let front : List ℕ = slice_range list 0 a in
      let mid : List ℕ = slice_range list (a + 1) b in
      let back : List ℕ = drop (b + 1) list in
      ap (λ l. l ++ ((y ∷ (mid ++ x ∷ [])) ++ back)) (sym (between_from_start list a))
      ∙ ap (λ l. front ++ (y ∷ l)) (append_assoc mid (x ∷ []) back)
      ∙ sym (append_assoc front (y ∷ []) (mid ++ (x ∷ back)))
      ∙ sym (append_assoc (front ++ y ∷ []) mid (x ∷ back))
      ∙ sym (append_assoc ((front ++ y ∷ []) ++ mid) (x ∷ []) back)
      ∙ ap (λ l. (((front ++ y ∷ []) ++ mid) ++ x ∷ []) ++ l) (sym (slice_to_end list (b + 1)))
      ∙ swapped_joined list a b y x order low

  pub other-front : (other : List ℕ) (a b : ℕ) → with_between list 0 a (slice_range other 0 b ++ []) ≡ take b other ++ drop a list
  other-front other a b = ap (λ l. l ++ drop a list) (append-nil (slice_range other 0 b) ∙ between_from_start other b)

-- ---- the arc costs after a move of one list or of two

module _ (model : Model) (lists : List (List ℕ)) where
  pub one-list : (mv : Move) (v : ℕ) (list : List ℕ) → v < length lists → with_route lists v list ≡ apply model lists mv
      → costs_more model lists v list ≡ arcs_added model lists mv
  one-list mv v list low is =
      let set = over-set (route_cost model) lists v list low in
      let after = ap (arcs_part model) is in
      omega (arith, ints, set, after)

  pub two-lists : (mv : Move) (v w : ℕ) (list other : List ℕ) → v < length lists → w < length lists → v ≢ w
      → with_route (with_route lists v list) w other ≡ apply model lists mv
      → costs_more model lists v list +ℤ costs_more model lists w other ≡ arcs_added model lists mv
  two-lists mv v w list other low low_w apart is =
      let first : List (List ℕ) = with_route lists v list in
      let one = over-set (route_cost model) lists v list low in
      let many = length-set lists v list in
      let two = over-set (route_cost model) first w other (omega (arith, many, low_w)) in
      let kept = ap (route_cost model w) (route_set_other lists v w list (λ e. apart (sym e))) in
      let after = ap (arcs_part model) is in
      omega (arith, ints, one, two, kept, after)
