-- What moves save of the penalties that put a visit or a pair into a list.
use Rattle.std.proofs.Common.{◌≡◌, ◌≢◌, ◌∙◌, refl, true, not, sym, subst, ℕ, ◌+◌, ◌<◌, ◌≤◌, List, [], ◌∷◌, ◌++◌, length, take, drop, sum_by, ap, arith}
use Rattle.std.specs.Prelude.{All, IsTrue, ℤ, ◌+ℤ◌, ◌-ℤ◌, insert, slice_index, slice_index_or, slice_range, slice_set}
use Rattle.std.proofs.lemmas.Int.{ints}
use Rattle.std.proofs.lemmas.List.Elements.{All-cons, All-nil}
use Rattle.std.proofs.lemmas.List.Folds.{drop_split}
use Rattle.std.proofs.lemmas.List.Sums.{sum_by-append, sum_by-cons, sum_by-insert, sum_by-set, sum_by-take-drop}
use Rattle.vr_model.specs.moves.Moves.{with_pair, with_route}
use Rattle.vr_model.specs.routes.Costs.{penalty_part}
use Rattle.vr_model.specs.routes.Routes.{is_active, route}
use Rattle.vr_model.specs.routes.Rules.{is_valid}
use Rattle.vr_model.specs.tables.Numbers.{number_at}
use Rattle.vr_model.specs.tables.Tables.{pair_at}
use Rattle.vr_model.specs.tables.WellFormed.{IsWellFormed}
use Rattle.vr_model.specs.declared.records.Model.{Model}
use Rattle.vr_model.specs.declared.records.Pair.{Pair}
use Rattle.vr_model.specs.declared.neighbours.Move.TheVariants.{MakeActive, PairActive, SwapActive}
use Rattle.vr_routes.specs.Pieces.{nodes_of, IsWithin}
use Rattle.vr_routes.specs.declared.pieces.Piece.{Piece}
use Rattle.vr_routes.specs.declared.pieces.Piece.TheVariants.{Node}
use Rattle.vr_routes.proofs.FactLemmas.{of_make_active, of_pair_active, of_swap_active}
use Rattle.vr_routes.proofs.SeatLemmas.{active_at}
use Rattle.vr_model.specs.deciding.Testing.{and_left, and_right}
use Rattle.vr_model.specs.moves.MoveTests.{is_inactive, is_place, is_vehicle}
use Rattle.vr_model.specs.tables.Tables.{is_visit}
use Rattle.vr_model.proofs.routes.Lists.{visit_below}
use Rattle.vr_model.proofs.tables.Tests.{clash, fails_not}
use Rattle.vr_parts.proofs.PartLemmas.{once-valid}
use Rattle.vr_balance.specs.Balances.{over_pieces, IsBalance, IsNoneOf, Turnover}
use Rattle.vr_usecosts.specs.Groups.{saved_in, AreSaved, IsMost, Saves, SavesAtMost}
use Rattle.vr_usecosts.proofs.GroupLemmas.{penalties-change}

-- a measure of a list into which a pair is put
sum-pair : (f : ℕ → ℕ) (pair : Pair) (s t : ℕ) (xs : List ℕ) → s ≤ t → sum_by f (with_pair pair s t xs) ≡ sum_by f xs + (f pair.pickup + f pair.delivery)
sum-pair f pair s t xs order =
    let back : List ℕ = pair.delivery ∷ drop t xs in
    let mid : List ℕ = slice_range xs s t in
    let whole = sum_by-take-drop f xs s in
    let rest : sum_by f (drop s xs) ≡ sum_by f mid + sum_by f (drop t xs) = ap (sum_by f) (drop_split xs s t order) ∙ sum_by-append f mid (drop t xs) in
    let one = sum_by-append f (take s xs) (pair.pickup ∷ (mid ++ back)) in
    let two = sum_by-cons f pair.pickup (mid ++ back) in
    let three = sum_by-append f mid back in
    let four = sum_by-cons f pair.delivery (drop t xs) in
    omega (arith, whole, rest, one, two, three, four)

-- a measure of nodes that come
sum-one : (f : ℕ → ℕ) (lists : List (List ℕ)) (x : ℕ) (pieces : List Piece) → over_pieces f lists (Node x ∷ pieces) ≡ f x + over_pieces f lists pieces
sum-one f lists x pieces =
    let one = sum_by-cons (λ piece. sum_by f (nodes_of lists piece)) (Node x) pieces in
    let two = sum_by-cons f x [] in
    omega (arith, one, two)

module _ (model : Model) (well : IsWellFormed model) (saved : List ℤ) (are : AreSaved model saved)
    (lists : List (List ℕ)) (valid : IsTrue (is_valid model lists)) where
  -- a list that gets nodes saves what they save
  put-in : (w : ℕ) (list : List ℕ) (come : List Piece) → w < length lists → All (IsWithin lists) come
      → ((f : ℕ → ℕ) → sum_by f list ≡ sum_by f (route lists w) + over_pieces f lists come)
      → IsTrue (is_valid model (with_route lists w list)) → penalty_part model lists -ℤ penalty_part model (with_route lists w list) ≡ saved_in saved lists come
  put-in w list come low within more after =
      let later : List (List ℕ) = with_route lists w list in
      let balance : IsBalance lists later (record { come = come; gone = [] }) = record {
        within = record { come = within; gone = All-nil (IsWithin lists); apart = λ k piece under. All-nil _ };
        balanced = λ f. (let set = sum_by-set (λ l. sum_by f l) lists w list [] low in let m = more f in omega (arith, set, m));
      } in
      let change = penalties-change model well saved are lists later (record { come = come; gone = [] })
      (once-valid model lists valid) (once-valid model later after) balance in
      omega (arith, ints, change)

  pub visit-saves : (u w t : ℕ) → Saves model lists (MakeActive u w t) (number_at saved u)
  visit-saves u w t one after =
      let facts = of_make_active model lists u w t one in
      let more : (f : ℕ → ℕ) → sum_by f (insert (route lists w) t u) ≡ sum_by f (route lists w) + over_pieces f lists (Node u ∷ []) = λ f.
      (let put = sum_by-insert f (route lists w) t u in let come = sum-one f lists u [] in omega (arith, put, come)) in
      let is = put-in w (insert (route lists w) t u) (Node u ∷ []) facts.vehicle
      (All-cons (IsWithin lists) (Node u) [] tt (All-nil (IsWithin lists))) more after in
      omega (arith, ints, is)

  pub pair-saves : (p w s t : ℕ)
      → Saves model lists (PairActive p w s t) (number_at saved (pair_at model p).pickup +ℤ number_at saved (pair_at model p).delivery)
  pair-saves p w s t one after =
      let pair = pair_at model p in
      let facts = of_pair_active model lists p w s t one in
      let come : List Piece = Node pair.pickup ∷ (Node pair.delivery ∷ []) in
      let more : (f : ℕ → ℕ) → sum_by f (with_pair pair s t (route lists w)) ≡ sum_by f (route lists w) + over_pieces f lists come = λ f.
      (let put = sum-pair f pair s t (route lists w) facts.order in let one = sum-one f lists pair.pickup (Node pair.delivery ∷ []) in
      let two = sum-one f lists pair.delivery [] in omega (arith, put, one, two)) in
      let within = All-cons (IsWithin lists) (Node pair.pickup) (Node pair.delivery ∷ []) tt
      (All-cons (IsWithin lists) (Node pair.delivery) [] tt (All-nil (IsWithin lists))) in
      let is = put-in w (with_pair pair s t (route lists w)) come facts.vehicle within more after in
      omega (arith, ints, is)

  -- a visit that takes the place of a node saves what it saves less what the node does
  pub newcomer-saves : (v a u : ℕ) → Saves model lists (SwapActive v a u) (number_at saved u -ℤ number_at saved (slice_index (route lists v) a))
  newcomer-saves v a u one after =
      let list : List ℕ = route lists v in
      let x : ℕ = slice_index list a in
      let facts = of_swap_active model lists v a u one in
      let later : List (List ℕ) = with_route lists v (slice_set list a u) in
      let idle = and_right (is_visit model u) (not (is_active lists u))
      (and_right (is_place lists v a) (is_inactive model lists u) (and_right (is_vehicle lists v) _ one)) in
      let turnover : Turnover = record { come = Node u ∷ []; gone = Node x ∷ [] } in
      let other : Node u ≢ Node x = λ e. (
      let same : u ≡ x = ap (λ piece. slice_index_or (nodes_of lists piece) 0 0) e in
      absurd (clash (is_active lists u) (subst (λ y. is_active lists y ≡ true) (sym same) (active_at lists x v a facts.vehicle facts.place refl))
      (fails_not (is_active lists u) idle))) in
      let balance : IsBalance lists later turnover = record {
        within = record {
          come = All-cons (IsWithin lists) (Node u) [] tt (All-nil (IsWithin lists));
          gone = All-cons (IsWithin lists) (Node x) [] tt (All-nil (IsWithin lists));
          apart = All-cons (IsNoneOf (Node x ∷ [])) (Node u) []
              (All-cons (λ piece. Node u ≢ piece) (Node x) [] other (All-nil (λ piece. Node u ≢ piece))) (All-nil (IsNoneOf (Node x ∷ [])));
        };
        balanced = λ f. (
            let set = sum_by-set (λ l. sum_by f l) lists v (slice_set list a u) [] facts.vehicle in
            let inner = sum_by-set f list a u 0 facts.place in
            let come = sum-one f lists u [] in
            let gone = sum-one f lists x [] in
            omega (arith, set, inner, come, gone));
      } in
      let change = penalties-change model well saved are lists later turnover (once-valid model lists valid) (once-valid model later after) balance in
      omega (arith, ints, change)

  -- and so no more than the most that a node saves, less that
  pub newcomer-saves-at-most : (v a u : ℕ) (most : ℤ) → IsMost saved most
      → SavesAtMost model lists (SwapActive v a u) (most -ℤ number_at saved (slice_index (route lists v) a))
  newcomer-saves-at-most v a u most is one after =
      let idle = and_right (is_place lists v a) (is_inactive model lists u) (and_right (is_vehicle lists v) _ one) in
      let low = visit_below model u (and_left (is_visit model u) _ idle) in
      let long = are.long in
      let exact = newcomer-saves v a u one after in
      let more = is.each u (omega (arith, low, long)) in
      omega (arith, ints, exact, more)
