-- Which moves stand in front of a move in the list of all moves.
use Rattle.std.proofs.Common.{◌≡◌, ◌≢◌, ◌∙◌, ℕ, zero, suc, ◌+◌, ◌<◌, ◌≤◌, Bool, true, false, cond, List, [], ◌∷◌, ◌++◌, length, map, refl, sym, ap, subst}
use Rattle.std.proofs.Common.{arith, inl, inr, ◌⊎◌, append_assoc}
use Rattle.std.specs.Prelude.{IsTrue, ◌-◌, filter, ◌==◌, ◌&&◌, ◌||◌, nat_lt}
use Rattle.std.specs.List.{range_with_len}
use Rattle.std.proofs.lemmas.Bool.{cases_Bool}
use Rattle.vr_model.specs.deciding.Testing.{and_left, and_right, or_cases}
use Rattle.vr_model.specs.tables.Numbers.{below, from_to, each}
use Rattle.vr_model.specs.tables.Tables.{pair_at}
use Rattle.vr_model.specs.routes.Routes.{route, vehicles, inactive}
use Rattle.vr_model.specs.moves.Moves.{places, gaps, gaps_from, pairs, places_behind, without_pair, is_pair_served, is_pair_together, is_pair_inactive}
use Rattle.vr_model.specs.moves.Moves.{has_chain, is_other, has_some_front, changes_the_list, moves_in, moves_over, all_neighbourhoods}
use Rattle.vr_model.specs.moves.MoveTests.{is_move}
use Rattle.vr_model.specs.declared.records.Model.{Model}
use Rattle.vr_model.specs.declared.neighbours.Move.{Move}
use Rattle.vr_model.specs.declared.neighbours.Move.TheVariants.{TwoOpt, OrOpt, Relocate, Exchange, Cross, RelocatePair, PairActive, PairInactive, MakeActive}
use Rattle.vr_model.specs.declared.neighbours.Move.TheVariants.{MakeInactive, SwapActive}
use Rattle.vr_model.specs.declared.neighbours.Neighbourhood.{Neighbourhood}
use Rattle.vr_model.specs.declared.neighbours.Neighbourhood.TheVariants as all
use Rattle.vr_model.proofs.tables.Members.{In, of_contains, of_range, from_each, from_map}
use Rattle.vr_model.proofs.tables.Tests.{lt_of_test, clash}
use Rattle.vr_model.proofs.moves.MoveMembers.{moves_as_tested}
use Rattle.vr_model.specs.declared.neighbours.Owner.TheVariants as own
use Rattle.vr_model.specs.moves.Kinds.{is_same_kind, kind_of, owner}
use Rattle.vr_known.specs.Blocks.{first_of, is_behind, is_kind_of}
use Rattle.vr_known.proofs.RowLemmas.{same_kind, same_test}

-- ---- lists that are split at a move

in_left : {A : Type 0} (xs ys : List A) (x : A) → In xs x → In (xs ++ ys) x
in_left [] ys x h = absurd h
in_left (z ∷ zs) ys x (inl e) = inl e
in_left (z ∷ zs) ys x (inr h) = inr (in_left zs ys x h)

in_right : {A : Type 0} (xs ys : List A) (x : A) → In ys x → In (xs ++ ys) x
in_right [] ys x h = h
in_right (z ∷ zs) ys x h = inr (in_right zs ys x h)

in_either : {A : Type 0} (xs ys : List A) (x : A) → In (xs ++ ys) x → In xs x ⊎ In ys x
in_either [] ys x h = inr h
in_either (z ∷ zs) ys x (inl e) = inl (inl e)
in_either (z ∷ zs) ys x (inr h) = elim (in_either zs ys x h) [ inl g ↦ inl (inr g) | inr g ↦ inr g ]

-- what stands in front of an entry begins with all entries of a list that does not have it
record Begins {A : Type 0} (xs ys before : List A) (mv : A) (after : List A) : Type 0 where
  rest : List A
  before_is : before ≡ xs ++ rest
  left : ys ≡ rest ++ mv ∷ after

begins : {A : Type 0} (xs ys before : List A) (mv : A) (after : List A) → xs ++ ys ≡ before ++ mv ∷ after → (In xs mv → ⊥) → Begins xs ys before mv after
begins [] ys before mv after e out = record { rest = before; before_is = refl; left = e }
begins {A} (x ∷ xs) ys [] mv after e out = absurd (out (inl (sym (first e))))
  where
    first : x ∷ (xs ++ ys) ≡ mv ∷ after → x ≡ mv
    first e = Prim.cc
begins {A} (x ∷ xs) ys (b ∷ bs) mv after e out =
    let r = begins xs ys bs mv after (second e) (λ h. out (inr h)) in
    record { rest = r.rest; before_is = ap (λ l. b ∷ l) r.before_is ∙ ap (λ y. y ∷ (xs ++ r.rest)) (sym (first e)); left = r.left }
  where
    first : x ∷ (xs ++ ys) ≡ b ∷ (bs ++ mv ∷ after) → x ≡ b
    first e = Prim.cc

    second : x ∷ (xs ++ ys) ≡ b ∷ (bs ++ mv ∷ after) → xs ++ ys ≡ bs ++ mv ∷ after
    second e = Prim.cc

-- the lists of those that pass, joined
each_filter : (p : ℕ → Bool) (f : ℕ → List Move) (xs : List ℕ) → each (filter p xs) f ≡ each xs (λ v. cond (p v) (f v) [])
each_filter p f [] = refl
each_filter p f (x ∷ xs) = by (p x) (each_filter p f xs)
  where
    by : (b : Bool) → each (filter p xs) f ≡ each xs (λ v. cond (p v) (f v) [])
        → each (cond b (x ∷ filter p xs) (filter p xs)) f ≡ cond b (f x) [] ++ each xs (λ v. cond (p v) (f v) [])
    by true same = ap (λ l. f x ++ l) same
    by false same = same

-- one move for each that passes is those of each, joined
map_filter : (p : ℕ → Bool) (f : ℕ → Move) (xs : List ℕ) → map f (filter p xs) ≡ each xs (λ v. cond (p v) (f v ∷ []) [])
map_filter p f [] = refl
map_filter p f (x ∷ xs) = by (p x) (map_filter p f xs)
  where
    by : (b : Bool) → map f (filter p xs) ≡ each xs (λ v. cond (p v) (f v ∷ []) [])
        → map f (cond b (x ∷ filter p xs) (filter p xs)) ≡ cond b (f x ∷ []) [] ++ each xs (λ v. cond (p v) (f v ∷ []) [])
    by true same = ap (λ l. f x ∷ l) same
    by false same = same

-- all moves are one row if nobody owns the rows
one_row : (mv : Move) → owner (kind_of mv) ≡ own.Nobody → first_of mv ≡ 0
one_row (TwoOpt v a b) none = Prim.cc
one_row (OrOpt v a k t) none = Prim.cc
one_row (Relocate v a w t) none = Prim.cc
one_row (Exchange v a w b) none = Prim.cc
one_row (Cross v a w b) none = Prim.cc
one_row (RelocatePair p w s t) none = Prim.cc
one_row (PairInactive p) none = Prim.cc
one_row (PairActive p w s t) none = refl
one_row (MakeActive u w t) none = refl
one_row (MakeInactive v a) none = refl
one_row (SwapActive v a u) none = refl

module _ (model : Model) (lists : List (List ℕ)) where
  -- the moves of a neighbourhood are of its kind
  abbrev OfKind : Neighbourhood → Type 0
  OfKind n = (mv : Move) → In (moves_in model lists n) mv → kind_of mv ≡ n

  kind_two_opt : OfKind all.TwoOpt
  kind_two_opt mv h = from_each _ (vehicles lists) mv h λ v _ h2. from_each _ (places (route lists v)) mv
      h2 λ a _ h3. from_map (TwoOpt v a) (from_to (suc a) (length (route lists v))) mv h3 λ b _ e. ap kind_of e

  kind_or_opt : OfKind all.OrOpt
  kind_or_opt mv h = from_each _ (vehicles lists) mv h λ v _ h2. from_each _ (places (route lists v)) mv h2 λ a _ h3.
      from_each _ (filter (has_chain (route lists v) a) (from_to 1 4)) mv h3 λ k _ h4.
      from_map (OrOpt v a k) (filter (is_other a) (below (suc (length (route lists v) - k)))) mv h4 λ t _ e. ap kind_of e

  kind_relocate : OfKind all.Relocate
  kind_relocate mv h = from_each _ (vehicles lists) mv h λ v _ h2. from_each _ (places (route lists v)) mv h2 λ a _ h3.
      from_each (λ w. map (Relocate v a w) (gaps (route lists w))) (filter (is_other v) (vehicles lists))
      mv h3 λ w _ h4. from_map (Relocate v a w) (gaps (route lists w)) mv h4 λ t _ e. ap kind_of e

  kind_exchange : OfKind all.Exchange
  kind_exchange mv h = from_each _ (vehicles lists) mv h λ v _ h2. from_each _ (places (route lists v)) mv h2 λ a _ h3.
      from_each _ (from_to v (length lists)) mv h3 λ w _ h4. from_map (Exchange v a w) (places_behind lists v a w) mv h4 λ b _ e. ap kind_of e

  kind_cross : OfKind all.Cross
  kind_cross mv h = from_each _ (vehicles lists) mv h λ v _ h2. from_each _ (gaps (route lists v)) mv h2 λ a _ h3.
      from_each _ (from_to (suc v) (length lists)) mv h3
      λ w _ h4. from_map (Cross v a w) (filter (has_some_front a) (gaps (route lists w))) mv h4 λ b _ e. ap kind_of e

  kind_relocate_pair : OfKind all.RelocatePair
  kind_relocate_pair mv h = from_each _ (filter (is_pair_served model lists) (pairs model)) mv h λ p _ h2. from_each _ (vehicles lists) mv h2 λ w _ h3.
      from_each _ (gaps (without_pair (pair_at model p) (route lists w))) mv h3 λ s _ h4.
      from_map (RelocatePair p w s)
      (filter (changes_the_list (pair_at model p) (route lists w) (without_pair (pair_at model p) (route lists w)) s)
      (gaps_from (without_pair (pair_at model p) (route lists w)) s)) mv h4 λ t _ e. ap kind_of e

  kind_pair_active : OfKind all.PairActive
  kind_pair_active mv h = from_each _ (filter (is_pair_inactive model lists) (pairs model)) mv h λ p _ h2. from_each _ (vehicles lists) mv h2 λ w _ h3.
      from_each _ (gaps (route lists w)) mv h3 λ s _ h4. from_map (PairActive p w s) (gaps_from (route lists w) s) mv h4 λ t _ e. ap kind_of e

  kind_pair_inactive : OfKind all.PairInactive
  kind_pair_inactive mv h = from_map PairInactive (filter (is_pair_together model lists) (pairs model)) mv h λ p _ e. ap kind_of e

  kind_make_active : OfKind all.MakeActive
  kind_make_active mv h = from_each _ (inactive model lists) mv h λ u _ h2. from_each (λ w. map (MakeActive u w) (gaps (route lists w)))
      (vehicles lists) mv h2 λ w _ h3. from_map (MakeActive u w) (gaps (route lists w)) mv h3 λ t _ e. ap kind_of e

  kind_make_inactive : OfKind all.MakeInactive
  kind_make_inactive mv h = from_each _ (vehicles lists) mv h λ v _ h2. from_map (MakeInactive v) (places (route lists v)) mv h2 λ a _ e. ap kind_of e

  kind_swap_active : OfKind all.SwapActive
  kind_swap_active mv h = from_each _ (vehicles lists) mv h
      λ v _ h2. from_each _ (places (route lists v)) mv h2 λ a _ h3. from_map (SwapActive v a) (inactive model lists) mv h3 λ u _ e. ap kind_of e

  of_kind : (n : Neighbourhood) → OfKind n
  of_kind all.TwoOpt = kind_two_opt
  of_kind all.OrOpt = kind_or_opt
  of_kind all.Relocate = kind_relocate
  of_kind all.Exchange = kind_exchange
  of_kind all.Cross = kind_cross
  of_kind all.RelocatePair = kind_relocate_pair
  of_kind all.PairActive = kind_pair_active
  of_kind all.PairInactive = kind_pair_inactive
  of_kind all.MakeActive = kind_make_active
  of_kind all.MakeInactive = kind_make_inactive
  of_kind all.SwapActive = kind_swap_active

  -- a move of the lists is one of the neighbourhood of its kind
  one_of : (mv : Move) → IsTrue (is_move model lists mv) → (n : Neighbourhood) → n ≡ kind_of mv → In (moves_in model lists n) mv
  unfolding moves_over
  one_of mv h n same = from_each (moves_in model lists) all_neighbourhoods mv
      (of_contains (moves_over model all_neighbourhoods lists) mv ((moves_as_tested model lists mv).1 h)) λ o _ there.
      subst (λ k. In (moves_in model lists k) mv) (sym (of_kind o mv there) ∙ sym same) there

  -- ---- vehicles

  -- the moves of a range of vehicles, each of which is the first that its moves name
  low_first : (f : ℕ → List Move) → ((v : ℕ) (m : Move) → In (f v) m → first_of m ≡ v)
      → (a n : ℕ) (m : Move) → In (each (range_with_len a n) f) m → a ≤ first_of m
  low_first f firsts a n m h =
      from_each f (range_with_len a n) m h λ v hv there. (let r = of_range a n v hv in let low = r.0 in let e = firsts v m there in omega (arith, low, e))

  before_rows : (f : ℕ → List Move) → ((v : ℕ) (m : Move) → In (f v) m → first_of m ≡ v) → (a n : ℕ) (ys before : List Move) (mv : Move) (after : List Move)
      → each (range_with_len a n) f ++ ys ≡ before ++ mv ∷ after → (m : Move) → In (each (range_with_len a n) f) m → first_of m < first_of mv → In before m
  before_rows f firsts a zero ys before mv after e m h low = absurd h
  before_rows f firsts a (suc n) ys before mv after e m h low =
      let from = low_first f firsts a (suc n) m h in
      let r = begins (f a) (each (range_with_len (a + 1) n) f ++ ys) before mv after (sym (append_assoc (f a) (each (range_with_len (a + 1) n) f) ys) ∙ e)
      (λ there. (let same = firsts a mv there in omega (arith, same, from, low))) in
      subst (λ l. In l m) (sym r.before_is) (elim (in_either (f a) (each (range_with_len (a + 1) n) f) m h) [
        | inl here ↦ in_left (f a) r.rest m here
        | inr later ↦ in_right (f a) r.rest m (before_rows f firsts (a + 1) n ys r.rest mv after r.left m later low)
      ])

  -- the moves of a pair, and none where it is not served
  abbrev moves_of_pair : ℕ → List Move
  moves_of_pair p = each (vehicles lists) λ w. each (gaps (without_pair (pair_at model p) (route lists w))) λ s.
      map (RelocatePair p w s)
      (filter (changes_the_list (pair_at model p) (route lists w) (without_pair (pair_at model p) (route lists w)) s)
      (gaps_from (without_pair (pair_at model p) (route lists w)) s))

  abbrev moves_where_served : ℕ → List Move
  moves_where_served p = cond (is_pair_served model lists p) (moves_of_pair p) []

  first_two_opt : (v : ℕ) (mv : Move) → In (each (places (route lists v)) λ a. map (TwoOpt v a) (from_to (suc a) (length (route lists v)))) mv → first_of mv ≡ v
  first_two_opt v mv h2 =
      from_each _ (places (route lists v)) mv h2 λ a _ h3. from_map (TwoOpt v a) (from_to (suc a) (length (route lists v))) mv h3 λ b _ e. ap first_of e

  first_or_opt : (v : ℕ) (mv : Move) → In (each (places (route lists v))
      λ a. each (filter (has_chain (route lists v) a) (from_to 1 4)) λ k. map (OrOpt v a k) (filter (is_other a) (below (suc (length (route lists v) - k))))) mv
      → first_of mv ≡ v
  first_or_opt v mv h2 = from_each _ (places (route lists v)) mv h2 λ a _ h3.
      from_each _ (filter (has_chain (route lists v) a) (from_to 1 4)) mv h3 λ k _ h4.
      from_map (OrOpt v a k) (filter (is_other a) (below (suc (length (route lists v) - k)))) mv h4 λ t _ e. ap first_of e

  first_relocate : (v : ℕ) (mv : Move)
      → In (each (places (route lists v)) λ a. each (filter (is_other v) (vehicles lists)) λ w. map (Relocate v a w) (gaps (route lists w))) mv
      → first_of mv ≡ v
  first_relocate v mv h2 = from_each _ (places (route lists v)) mv h2 λ a _ h3.
      from_each (λ w. map (Relocate v a w) (gaps (route lists w))) (filter (is_other v) (vehicles lists))
      mv h3 λ w _ h4. from_map (Relocate v a w) (gaps (route lists w)) mv h4 λ t _ e. ap first_of e

  first_exchange : (v : ℕ) (mv : Move)
      → In (each (places (route lists v)) λ a. each (from_to v (length lists)) λ w. map (Exchange v a w) (places_behind lists v a w)) mv → first_of mv ≡ v
  first_exchange v mv h2 = from_each _ (places (route lists v)) mv h2 λ a _ h3.
      from_each _ (from_to v (length lists)) mv h3 λ w _ h4. from_map (Exchange v a w) (places_behind lists v a w) mv h4 λ b _ e. ap first_of e

  first_cross : (v : ℕ) (mv : Move)
      → In (each (gaps (route lists v)) λ a. each (from_to (suc v) (length lists)) λ w. map (Cross v a w) (filter (has_some_front a) (gaps (route lists w)))) mv
      → first_of mv ≡ v
  first_cross v mv h2 = from_each _ (gaps (route lists v)) mv h2 λ a _ h3.
      from_each _ (from_to (suc v) (length lists)) mv h3
      λ w _ h4. from_map (Cross v a w) (filter (has_some_front a) (gaps (route lists w))) mv h4 λ b _ e. ap first_of e

  first_relocate_pair : (p : ℕ) (mv : Move) → In (moves_of_pair p) mv → first_of mv ≡ p
  first_relocate_pair p mv h2 = from_each _ (vehicles lists) mv h2 λ w _ h3.
      from_each _ (gaps (without_pair (pair_at model p) (route lists w))) mv h3 λ s _ h4.
      from_map (RelocatePair p w s)
      (filter (changes_the_list (pair_at model p) (route lists w) (without_pair (pair_at model p) (route lists w)) s)
      (gaps_from (without_pair (pair_at model p) (route lists w)) s)) mv h4 λ t _ e. ap first_of e

  first_where : (p : ℕ) (mv : Move) → In (moves_where_served p) mv → first_of mv ≡ p
  first_where p mv h = by (is_pair_served model lists p) h
    where
      by : (b : Bool) → In (cond b (moves_of_pair p) []) mv → first_of mv ≡ p
      by true there = first_relocate_pair p mv there
      by false there = absurd there

  -- the move that takes a pair out, and none where its nodes do not stand in one list
  abbrev moves_where_together : ℕ → List Move
  moves_where_together p = cond (is_pair_together model lists p) (PairInactive p ∷ []) []

  first_together : (p : ℕ) (mv : Move) → In (moves_where_together p) mv → first_of mv ≡ p
  first_together p mv h = by (is_pair_together model lists p) h
    where
      by : (b : Bool) → In (cond b (PairInactive p ∷ []) []) mv → first_of mv ≡ p
      by true (inl is) = ap first_of is
      by true (inr none) = absurd none
      by false there = absurd there

  -- in a neighbourhood the moves of a row stand in front of those of the next
  before_kind : (n : Neighbourhood) (ys before : List Move) (mv : Move) (after : List Move)
      → n ≡ kind_of mv → moves_in model lists n ++ ys ≡ before ++ mv ∷ after
      → (m : Move) → In (moves_in model lists n) m → first_of m < first_of mv → In before m
  before_kind all.TwoOpt ys before mv after same e m h low = before_rows _ first_two_opt 0 (length lists) ys before mv after e m h low
  before_kind all.OrOpt ys before mv after same e m h low = before_rows _ first_or_opt 0 (length lists) ys before mv after e m h low
  before_kind all.Relocate ys before mv after same e m h low = before_rows _ first_relocate 0 (length lists) ys before mv after e m h low
  before_kind all.Exchange ys before mv after same e m h low = before_rows _ first_exchange 0 (length lists) ys before mv after e m h low
  before_kind all.Cross ys before mv after same e m h low = before_rows _ first_cross 0 (length lists) ys before mv after e m h low
  before_kind all.RelocatePair ys before mv after same e m h low =
      let as_rows = each_filter (is_pair_served model lists) moves_of_pair (pairs model) in
      before_rows moves_where_served first_where 0 (length model.pairs) ys before mv
      after (ap (λ l. l ++ ys) (sym as_rows) ∙ e) m (subst (λ l. In l m) as_rows h) low
  before_kind all.PairActive ys before mv after same e m h low = let none = one_row mv (ap owner (sym same)) in absurd (omega (arith, none, low))
  before_kind all.PairInactive ys before mv after same e m h low =
      let as_rows = map_filter (is_pair_together model lists) PairInactive (pairs model) in
      before_rows moves_where_together first_together 0 (length model.pairs) ys before mv
      after (ap (λ l. l ++ ys) (sym as_rows) ∙ e) m (subst (λ l. In l m) as_rows h) low
  before_kind all.MakeActive ys before mv after same e m h low = let none = one_row mv (ap owner (sym same)) in absurd (omega (arith, none, low))
  before_kind all.MakeInactive ys before mv after same e m h low = let none = one_row mv (ap owner (sym same)) in absurd (omega (arith, none, low))
  before_kind all.SwapActive ys before mv after same e m h low = let none = one_row mv (ap owner (sym same)) in absurd (omega (arith, none, low))

  over_more : (n : Neighbourhood) (ns : List Neighbourhood) → moves_over model (n ∷ ns) lists ≡ moves_in model lists n ++ moves_over model ns lists
  unfolding moves_over
  over_more n ns = refl

  -- the moves that are said to stand in front of a move do
  pub stand_before : (ns : List Neighbourhood) (before : List Move) (mv : Move) (after : List Move) → moves_over model ns lists ≡ before ++ mv ∷ after
      → (m : Move) → IsTrue (is_move model lists m) → IsTrue (is_behind ns (kind_of m) (first_of m) mv) → In before m
  stand_before [] before mv after e m one h = absurd (clash false h refl)
  stand_before (n ∷ ns) before mv after e m one h = elim (cases_Bool (is_same_kind n (kind_of mv))) [
    | inl is ↦ (
        let same : n ≡ kind_of mv = same_kind n (kind_of mv) is in
        let here : IsTrue (is_same_kind (kind_of m) (kind_of mv) && nat_lt (first_of m) (first_of mv)) =
        sym (ap (λ b. cond b (is_same_kind (kind_of m) (kind_of mv) && nat_lt (first_of m) (first_of mv))
        (is_same_kind (kind_of m) n || is_behind ns (kind_of m) (first_of m) mv)) is) ∙ h in
        let alike : kind_of m ≡ kind_of mv = same_kind (kind_of m) (kind_of mv) (and_left (is_same_kind (kind_of m) (kind_of mv)) _ here) in
        before_kind n (moves_over model ns lists) before mv after same (sym (over_more n ns) ∙ e) m (one_of m one n (same ∙ sym alike))
        (lt_of_test (first_of m) (first_of mv) (and_right (is_same_kind (kind_of m) (kind_of mv)) _ here)))
    | inr other ↦ (
        let later : IsTrue (is_same_kind (kind_of m) n || is_behind ns (kind_of m) (first_of m) mv) =
        sym (ap (λ b. cond b (is_same_kind (kind_of m) (kind_of mv) && nat_lt (first_of m) (first_of mv))
        (is_same_kind (kind_of m) n || is_behind ns (kind_of m) (first_of m) mv)) other) ∙ h in
        let r = begins (moves_in model lists n) (moves_over model ns lists) before mv after (sym (over_more n ns) ∙ e)
        (λ there. clash (is_same_kind n (kind_of mv)) (same_test n (kind_of mv) (sym (of_kind n mv there))) other) in
        subst (λ l. In l m) (sym r.before_is) (elim (or_cases (is_same_kind (kind_of m) n) _ later) [
          | inl here ↦ in_left (moves_in model lists n) r.rest m (one_of m one n (sym (same_kind (kind_of m) n here)))
          | inr behind ↦ in_right (moves_in model lists n) r.rest m (stand_before ns r.rest mv after r.left m one behind)
        ]))
  ]

  -- a move of a kind that some of the neighbourhoods has is one of theirs
  pub are_listed : (ns : List Neighbourhood) (m : Move) → IsTrue (is_move model lists m) → IsTrue (is_kind_of ns (kind_of m)) → In (moves_over model ns lists) m
  are_listed [] m one h = absurd (clash false h refl)
  are_listed (n ∷ ns) m one h = subst (λ l. In l m) (sym (over_more n ns)) (elim (or_cases (is_same_kind (kind_of m) n) _ h) [
    | inl here ↦ in_left (moves_in model lists n) (moves_over model ns lists) m (one_of m one n (sym (same_kind (kind_of m) n here)))
    | inr later ↦ in_right (moves_in model lists n) (moves_over model ns lists) m (are_listed ns m one later)
  ])
