-- From open lists a step makes open lists: a ruin takes visits out, and a recreation puts items in that stood in no list.
use Rattle.std.proofs.Common.{◌≡◌, ◌∙◌, ◌<◌, ◌≤◌, ◌+◌, ◌-◌, ◌⊎◌, ◌++◌, ℕ, zero, suc, List, [], ◌∷◌, Bool, true, false, cond, not, Option, Some, None, inl, inr}
use Rattle.std.proofs.Common.{refl, ap, ap₂, sym, subst, arith, length}
use Rattle.std.specs.Prelude.{◌||◌, ◌==◌, ◌/◌, min, filter, fold, find, sum_by, slice_get, option_to_list, MatchOption, ℤ}
use Rattle.std.specs.List.{range_with_len, swap}
use Rattle.std.proofs.lemmas.Nat.{mod_below}
use Rattle.std.specs.List.Sorted.{IsPermutation}
use Rattle.std.proofs.lemmas.Bool.{eqb-true, eq-eqb}
use Rattle.std.proofs.lemmas.List.Sorted.{IsPermutation-refl, IsPermutation-sym, IsPermutation-trans, IsPermutation-cons, Contains-permutation}
use Rattle.std.proofs.lemmas.List.Sorted.{length_permutation, sum_by-IsPermutation}
use Rattle.std.proofs.lemmas.List.Sums.{sum_by-append, sum_by-cons}
use Rattle.rand_pcg.specs.Lcg.{Lcg}
use Rattle.rand_pcg.specs.Pcg.{pcg32}
use Rattle.vr_gen.specs.Draws.{draw}
use Rattle.vr_model.specs.declared.records.Model.{Model}
use Rattle.vr_model.specs.declared.records.Pair.{Pair}
use Rattle.vr_model.specs.tables.Numbers.{below, each, is_lex_less}
use Rattle.vr_model.specs.tables.Tables.{is_visit, visits}
use Rattle.vr_model.specs.tables.WellFormed.{IsWellFormed}
use Rattle.vr_model.specs.routes.Routes.{holds, is_active, is_empty, route, used_vehicles, vehicles}
use Rattle.vr_model.specs.routes.Rules.{is_open, is_route_open, place_of}
use Rattle.vr_model.specs.moves.Moves.{with_route}
use Rattle.vr_model.specs.first.Choosing.{least_by}
use Rattle.vr_model.specs.first.Items.{first_node, items, items_at, pair_of, unplaced}
use Rattle.vr_model.specs.first.CheapestInsertion.{Insertion, inserted, inserted_in, places_for}
use Rattle.vr_model.specs.deciding.Testing.{and_both}
use Rattle.vr_model.specs.search.ChoosingLaws.{IsFirstLeast}
use Rattle.vr_model.proofs.first.LeastChoice.{least_first}
use Rattle.vr_model.proofs.tables.Tests.{apart, clash, fails, fails_not}
use Rattle.vr_model.proofs.tables.Members.{In, from_each, from_map, of_below, of_contains, of_filter, to_contains}
use Rattle.vr_rules.specs.declared.items.Item.{Item}
use Rattle.vr_rules.specs.declared.items.Item.TheVariants.{Visit, PickupAndDelivery}
use Rattle.vr_rules.specs.Placing.{fits_beside, item_nodes, AreBuilt, IsItem}
use Rattle.vr_rules.proofs.LocalOpenness.{is_active-added, is_open-local}
use Rattle.vr_rules.proofs.PlacingLemmas.{AreBuilt-added, IsAdded, built-distinct}
use Rattle.vr_strings.specs.Sorting.{put_by, sorted_by}
use Rattle.vr_strings.specs.Strings.{Ruined, cut_at_visit, cut_in, cut_unless_passed, goes_out, gone_of, left_of_list, drawn_string, ring, ruined, step_size}
use Rattle.vr_strings.specs.Strings.{vehicle_of}
use Rattle.vr_strings.specs.Turns.{class_key, far_key, shuffled, turns}
use Rattle.vr_strings.specs.Zeros.{zeros}
use Rattle.vr_strings.specs.declared.sizes.Ruin.{Ruin}
use Rattle.vr_ruin.specs.Offers.{empty_vehicles, insertions_into, is_paid, keeps_open, offer, offer_at, offer_key, offers, offers_of, put_back, rank_key}
use Rattle.vr_ruin.specs.Offers.{recreated, with_offer}
use Rattle.vr_ruin.specs.Steps.{RefineState, RefineStep, heat_at, judged_at, remade, step_from}
use Rattle.vr_ruin.specs.Answering.{StepsStayOpen}
use Rattle.vr_ruin.specs.Makings.{firsts, one, AreInTurn}
use Rattle.vr_ruin.proofs.Fewer.{built_fewer, part_left, set_same}
use Rattle.vr_ruin.proofs.Owners.{item_is, owned}
use Rattle.vr_ruin.proofs.Placed.{item_added, places_in}

-- ---- ruin

module _ (model : Model) where
  string_open : (longest visit v : ℕ) (state : Ruined) → v < length state.lists
      → AreBuilt model state.lists → AreBuilt model (cut_in model longest visit v state).lists
  string_open longest visit v state low built = by (is_route_open model v left) refl
    where
      list : List ℕ
      list = route state.lists v

      left : List ℕ
      left = left_of_list model list (drawn_string longest (length list) (place_of list visit) state.words).0

      by : (b : Bool) → is_route_open model v left ≡ b → AreBuilt model (with_route state.lists v (cond b left list))
      by true e = built_fewer model state.lists v left built low
          (part_left (λ node. not (goes_out model (gone_of list (drawn_string longest (length list) (place_of list visit) state.words).0) node))
          list (built-distinct model state.lists v built)) e
      by false e = subst (AreBuilt model) (sym (set_same state.lists v low)) built

  found_in : (p : ℕ → Bool) (xs : List ℕ) (x : ℕ) → find p xs ≡ Some x → In xs x
  found_in p [] x e = absurd (cc)
  found_in p (y ∷ ys) x e = by (p y) e (found_in p ys x)
    where
      by : (b : Bool) → cond b (Some y) (find p ys) ≡ Some x → (find p ys ≡ Some x → In ys x) → In (y ∷ ys) x
      by true e later = inl (same e)
        where
          same : Some y ≡ Some x → x ≡ y
          same e = cc
      by false e later = inr (later e)

  vehicle_there : (lists : List (List ℕ)) (visit v : ℕ) → vehicle_of lists visit ≡ Some v → v < length lists
  vehicle_there lists visit v e = of_below (length lists) v (found_in (λ v. holds (route lists v) visit) (vehicles lists) v e)

  visit_open : (longest count visit : ℕ) (state : Ruined) → AreBuilt model state.lists → AreBuilt model (cut_at_visit model longest count state visit).lists
  visit_open longest count visit state built = by (length state.cut == count)
    where
      unless : (v : ℕ) → v < length state.lists → (b : Bool)
          → (let next : Ruined = elim b [ true ↦ state | false ↦ cut_in model longest visit v state ] in AreBuilt model next.lists)
      unless v low true = built
      unless v low false = string_open longest visit v state low built

      at : (v : Option ℕ) → vehicle_of state.lists visit ≡ v → AreBuilt model (cut_unless_passed model longest visit state v).lists
      at None e = built
      at (Some v) e = unless v (vehicle_there state.lists visit v e) (holds state.cut v)

      by : (b : Bool) → (let next : Ruined = elim b [ true ↦ state | false ↦ cut_unless_passed model longest visit state (vehicle_of state.lists visit) ] in
          AreBuilt model next.lists)
      by true = built
      by false = at (vehicle_of state.lists visit) refl

  visits_open : (longest count : ℕ) (visits : List ℕ) (state : Ruined) → AreBuilt model state.lists
      → AreBuilt model (fold (cut_at_visit model longest count) state visits).lists
  visits_open longest count [] state built = built
  visits_open longest count (visit ∷ rest) state built =
      visits_open longest count rest (cut_at_visit model longest count state visit) (visit_open longest count visit state built)

  pub ruined_open : (ruin : Ruin) (lists : List (List ℕ)) (words : Lcg) → AreBuilt model lists → AreBuilt model (ruined model ruin lists words).lists
  unfolding ruined
  ruined_open ruin lists words built =
      let size = step_size (visits model) ruin lists words in
      visits_open size.0.longest size.0.count (ring model size.0.centre) (record { lists = lists; cut = []; words = size.1 }) built

-- ---- orders

put_permutation : {A : Type 0} (key : A → List ℤ) (x : A) (ys : List A) → IsPermutation (x ∷ ys) (put_by key x ys)
put_permutation key x [] = IsPermutation-refl (x ∷ [])
put_permutation key x (y ∷ ys) = by (is_lex_less (key y) (key x)) (put_permutation key x ys)
  where
    turned : IsPermutation (x ∷ y ∷ ys) (y ∷ x ∷ ys)
    turned = record { moves = (0, 1) ∷ []; below = (omega arith, omega arith, tt); is = refl }

    by : (b : Bool) → IsPermutation (x ∷ ys) (put_by key x ys) → IsPermutation (x ∷ y ∷ ys) (cond b (y ∷ put_by key x ys) (x ∷ y ∷ ys))
    by true later = IsPermutation-trans (x ∷ y ∷ ys) (y ∷ x ∷ ys) (y ∷ put_by key x ys) turned (IsPermutation-cons y (x ∷ ys) (put_by key x ys) later)
    by false later = IsPermutation-refl (x ∷ y ∷ ys)

pub sorted_permutation : {A : Type 0} (key : A → List ℤ) (xs : List A) → IsPermutation xs (sorted_by key xs)
sorted_permutation key [] = IsPermutation-refl []
sorted_permutation key (x ∷ xs) =
    IsPermutation-trans (x ∷ xs) (x ∷ sorted_by key xs) (put_by key x (sorted_by key xs))
    (IsPermutation-cons x xs (sorted_by key xs) (sorted_permutation key xs)) (put_permutation key x (sorted_by key xs))

pub shuffled_permutation : {A : Type 0} (i : ℕ) (xs : List A) (words : Lcg) → i ≤ length xs - 1 → IsPermutation xs (shuffled i xs words).0
shuffled_permutation zero xs words low = IsPermutation-refl xs
shuffled_permutation (suc i) xs words low =
    let other = draw (suc (suc i)) words in
    let below : other.0 < suc (suc i) = mod_below (pcg32 words).0 (suc (suc i)) (omega arith) in
    let once : IsPermutation xs (swap xs (suc i) other.0) = record {
      moves = (suc i, other.0) ∷ [];
      below = (omega (arith, low), omega (arith, low, below), tt);
      is = refl;
    } in
    IsPermutation-trans xs (swap xs (suc i) other.0) _ once
    (shuffled_permutation i (swap xs (suc i) other.0) other.1 (let same = length_permutation xs (swap xs (suc i) other.0) once in omega (arith, low, same)))

module _ (model : Model) where
  -- items are put back in some order of those that are in no list
  pub turns_permutation : (lists : List (List ℕ)) (words : Lcg) → IsPermutation (unplaced model lists) (turns model lists words).0
  unfolding turns
  turns_permutation lists words =
      let absent = unplaced model lists in
      let mixed = shuffled (length absent - 1) absent words in
      let coin = draw 2 mixed.1 in
      let far = cond (coin.0 == 1) (sorted_by (far_key model) mixed.0) mixed.0 in
      IsPermutation-trans absent mixed.0 (sorted_by (class_key model) far) (shuffled_permutation (length absent - 1) absent words (omega arith))
      (IsPermutation-trans mixed.0 far (sorted_by (class_key model) far) (by mixed.0 (coin.0 == 1)) (sorted_permutation (class_key model) far))
    where
      by : (xs : List (List ℕ)) (b : Bool) → IsPermutation xs (cond b (sorted_by (far_key model) xs) xs)
      by xs true = sorted_permutation (far_key model) xs
      by xs false = IsPermutation-refl xs

-- ---- items that are to be put back

-- items of a model that are in no list, each of them once
pub record AreToPlace (model : Model) (lists xs : List (List ℕ)) : Type 0 where
  pub among : (item : List ℕ) → In xs item → In (items model) item
  pub inactive : (item : List ℕ) → In xs item → is_active lists (first_node item) ≡ false
  pub once : (n : ℕ) → firsts n xs ≤ 1

pub to_place_of : (model : Model) (lists xs : List (List ℕ)) → AreInTurn model lists xs → AreToPlace model lists xs
to_place_of model lists xs turn = record {
  among = λ item there. of_contains (items model) item (turn.among item (to_contains xs item there));
  inactive = λ item there. turn.inactive item (to_contains xs item there);
  once = turn.once;
}

pub in_turn_of : (model : Model) (lists xs : List (List ℕ)) → AreToPlace model lists xs → AreInTurn model lists xs
in_turn_of model lists xs left = record {
  among = λ item there. to_contains (items model) item (left.among item (of_contains xs item there));
  inactive = λ item there. left.inactive item (of_contains xs item there);
  once = left.once;
}

module _ (model : Model) (well_formed : IsWellFormed model) where
  -- ---- the items of a model, each of them once

  none_above : (n a k : ℕ) → n < a → sum_by (λ node. one (node == n)) (range_with_len a k) ≡ 0
  none_above n a zero above = refl
  none_above n a (suc k) above =
      let count = sum_by-cons (λ node. one (node == n)) a (range_with_len (a + 1) k) in
      let here : one (a == n) ≡ 0 = ap one (apart a n (λ same. omega (arith, same, above))) in
      let later = none_above n (a + 1) k (omega (arith, above)) in
      omega (arith, count, here, later)

  numbers_once : (n a k : ℕ) → sum_by (λ node. one (node == n)) (range_with_len a k) ≤ 1
  numbers_once n a zero = omega arith
  numbers_once n a (suc k) = by (a == n) refl (sum_by-cons (λ node. one (node == n)) a (range_with_len (a + 1) k)) (numbers_once n (a + 1) k)
    where
      by : (b : Bool) → (a == n) ≡ b
          → sum_by (λ node. one (node == n)) (a ∷ range_with_len (a + 1) k) ≡ one (a == n) + sum_by (λ node. one (node == n)) (range_with_len (a + 1) k)
          → sum_by (λ node. one (node == n)) (range_with_len (a + 1) k) ≤ 1 → sum_by (λ node. one (node == n)) (a ∷ range_with_len (a + 1) k) ≤ 1
      by true e count later =
          let same : a ≡ n = eqb-true a n e in
          let here : one (a == n) ≡ 1 = ap one e in
          let rest = none_above n (a + 1) k (omega (arith, same)) in
          omega (arith, count, here, rest)
      by false e count later = let here : one (a == n) ≡ 0 = ap one e in omega (arith, count, here, later)

  filter_fewer : {A : Type 0} (f : A → ℕ) (p : A → Bool) (xs : List A) → sum_by f (filter p xs) ≤ sum_by f xs
  filter_fewer f p [] = omega arith
  filter_fewer f p (x ∷ xs) = by (p x) (filter_fewer f p xs) (sum_by-cons f x xs)
    where
      by : (b : Bool) → sum_by f (filter p xs) ≤ sum_by f xs → sum_by f (x ∷ xs) ≡ f x + sum_by f xs
          → sum_by f (cond b (x ∷ filter p xs) (filter p xs)) ≤ sum_by f (x ∷ xs)
      by true rest count = let same = sum_by-cons f x (filter p xs) in omega (arith, rest, count, same)
      by false rest count = omega (arith, rest, count)

  firsts_each : (n : ℕ) (nodes : List ℕ) → firsts n (each nodes (λ node. items_at (pair_of model node) node)) ≤ sum_by (λ node. one (node == n)) nodes
  firsts_each n [] = omega arith
  firsts_each n (node ∷ nodes) =
      let here = at (pair_of model node) in
      let later = firsts_each n nodes in
      let both = sum_by-append (λ item. one (first_node item == n))
      (items_at (pair_of model node) node) (each nodes (λ node. items_at (pair_of model node) node)) in
      let count = sum_by-cons (λ node. one (node == n)) node nodes in
      omega (arith, here, later, both, count)
    where
      single : (item : List ℕ) → firsts n (item ∷ []) ≡ one (first_node item == n)
      single item = sum_by-cons (λ item. one (first_node item == n)) item [] ∙ plus_none (one (first_node item == n))
        where
          plus_none : (k : ℕ) → k + 0 ≡ k
          plus_none k = omega arith

      pickup : (pair : Pair) (b : Bool) → (pair.pickup == node) ≡ b → firsts n (cond b ((pair.pickup ∷ pair.delivery ∷ []) ∷ []) []) ≤ one (node == n)
      pickup pair true e =
          let count = single (pair.pickup ∷ pair.delivery ∷ []) in
          let same : one (pair.pickup == n) ≡ one (node == n) = ap (λ k. one (k == n)) (eqb-true pair.pickup node e) in
          omega (arith, count, same)
      pickup pair false e = omega arith

      at : (o : Option Pair) → firsts n (items_at o node) ≤ one (node == n)
      at None = let count = single (node ∷ []) in omega (arith, count)
      at (Some pair) = pickup pair (pair.pickup == node) refl

  -- the items in no list, in any order
  pub to_place : (lists xs : List (List ℕ)) → IsPermutation (unplaced model lists) xs → AreToPlace model lists xs
  to_place lists xs moved = record {
    among = λ item there. (of item there).0;
    inactive = λ item there. fails_not (is_active lists (first_node item)) (of item there).1;
    once = λ n.
        let same = sum_by-IsPermutation (λ item. one (first_node item == n)) (unplaced model lists) xs moved in
        let fewer = filter_fewer (λ item. one (first_node item == n)) (λ item. not (is_active lists (first_node item))) (items model) in
        let each_one = firsts_each n (visits model) in
        let visits_fewer = filter_fewer (λ node. one (node == n)) (is_visit model) (below model.nodes) in
        let most = numbers_once n 0 model.nodes in
        omega (arith, same, fewer, each_one, visits_fewer, most);
  }
    where
      of : (item : List ℕ) → In xs item → In (items model) item × (not (is_active lists (first_node item)) ≡ true)
      of item there = of_filter (λ item. not (is_active lists (first_node item))) (items model) item
          (of_contains (unplaced model lists) item
          (Contains-permutation xs (unplaced model lists) item (IsPermutation-sym (unplaced model lists) xs moved) (to_contains xs item there)))

  -- ---- an item that is put into a list

  -- an insertion that a vehicle offers for an item
  pub record IsOffered (lists : List (List ℕ)) (item : List ℕ) (insertion : Insertion) : Type 0 where
    pub vehicle : insertion.vehicle < length lists
    pub item_is : insertion.item ≡ item
    pub places : In (places_for item (route lists insertion.vehicle)) insertion.places
    pub opens : is_route_open model insertion.vehicle (inserted_in (route lists insertion.vehicle) item insertion.places) ≡ true

  least_in : {A : Type 0} (key : A → List ℤ) (xs : List A) (x : A) → least_by key xs ≡ Some x → In xs x
  least_in key xs x e =
      let h : IsFirstLeast key xs x = subst (λ o. MatchOption o (xs ≡ []) (IsFirstLeast key xs)) e (least_first key xs) in
      of_contains xs x (h.place, h.in_list, h.stands_there x)

  pub offer_is : (lists : List (List ℕ)) (item : List ℕ) (v : ℕ) (insertion : Insertion)
      → v < length lists → offer model lists item v ≡ Some insertion → IsOffered lists item insertion
  offer_is lists item v insertion low e =
      let of = of_filter (keeps_open model lists) (insertions_into lists item v) insertion
      (least_in (offer_key model lists) (filter (keeps_open model lists) (insertions_into lists item v)) insertion e) in
      from_map (λ places. record { item = item; vehicle = v; places = places })
      (places_for item (route lists v)) insertion of.0 (λ places there same. built_of places there same of.1)
    where
      built_of : (places : List ℕ) → In (places_for item (route lists v)) places → insertion ≡ record { item = item; vehicle = v; places = places }
          → keeps_open model lists insertion ≡ true → IsOffered lists item insertion
      built_of places there same opens = subst (IsOffered lists item) (sym same)
          (record { vehicle = low; item_is = refl; places = there; opens = subst (λ i. keeps_open model lists i ≡ true) same opens })

  asked_is : (lists : List (List ℕ)) (item asked : List ℕ) (insertion : Insertion) → ((v : ℕ) → In asked v → v < length lists)
      → In (offers_of model lists item asked) insertion → IsOffered lists item insertion
  asked_is lists item asked insertion known among = from_each (λ v. option_to_list (offer model lists item v))
      asked insertion among (λ v there at. one_of (offer model lists item v) v refl (known v there) at)
    where
      one_of : (o : Option Insertion) (v : ℕ) → offer model lists item v ≡ o
          → v < length lists → In (option_to_list o) insertion → IsOffered lists item insertion
      one_of None v e low at = absurd at
      one_of (Some x) v e low (inl same) = offer_is lists item v insertion low (e ∙ ap Some (sym same))
      one_of (Some x) v e low (inr none) = absurd none

  in_both : {A : Type 0} (xs ys : List A) (x : A) → In (xs ++ ys) x → In xs x ⊎ In ys x
  in_both [] ys x h = inr h
  in_both (z ∷ zs) ys x (inl e) = inl (inl e)
  in_both (z ∷ zs) ys x (inr h) = elim (in_both zs ys x h) [ inl g ↦ inl (inr g) | inr g ↦ inr g ]

  vehicle_known : (lists : List (List ℕ)) (p : ℕ → Bool) (v : ℕ) → In (filter p (vehicles lists)) v → v < length lists
  vehicle_known lists p v there = of_below (length lists) v (of_filter p (vehicles lists) v there).0

  offers_are : (wide : Bool) (lists : List (List ℕ)) (item : List ℕ) (insertion : Insertion)
      → In (offers model wide lists item) insertion → IsOffered lists item insertion
  offers_are wide lists item insertion among = by (wide || is_empty (offers_of model lists item (used_vehicles lists))) among
    where
      used : In (offers_of model lists item (used_vehicles lists)) insertion → IsOffered lists item insertion
      used there = asked_is lists item (used_vehicles lists) insertion (vehicle_known lists (λ v. not (is_empty (route lists v)))) there

      by : (b : Bool) → In (cond b (offers_of model lists item (used_vehicles lists) ++ offers_of model lists item (empty_vehicles lists))
          (offers_of model lists item (used_vehicles lists))) insertion → IsOffered lists item insertion
      by false there = used there
      by true there = elim (in_both (offers_of model lists item (used_vehicles lists)) (offers_of model lists item (empty_vehicles lists)) insertion there) [
        | inl h ↦ used h
        | inr h ↦ asked_is lists item (empty_vehicles lists) insertion (vehicle_known lists (λ v. is_empty (route lists v))) h
      ]

  got_in : {A : Type 0} (xs : List A) (k : ℕ) (x : A) → slice_get xs k ≡ Some x → In xs x
  got_in [] k x e = absurd (cc)
  got_in (y ∷ ys) zero x e = inl (same e)
    where
      same : Some y ≡ Some x → x ≡ y
      same e = cc
  got_in (y ∷ ys) (suc k) x e = inr (got_in ys k x e)

  pub chosen_is : (wide : Bool) (lists : List (List ℕ)) (item : List ℕ) (r : ℕ) (insertion : Insertion)
      → offer_at model wide lists item r ≡ Some insertion → IsOffered lists item insertion
  chosen_is wide lists item r insertion e =
      let all = offers model wide lists item in
      let in_order = sorted_by (rank_key model lists) all in
      offers_are wide lists item insertion
      (of_contains all insertion
      (Contains-permutation in_order all insertion (IsPermutation-sym all in_order (sorted_permutation (rank_key model lists) all))
      (to_contains in_order insertion (got_in in_order (min r (length in_order - 1)) insertion e))))

  -- the lists of an insertion that may be made, and the items that are still to be put back
  pub record IsStillOpen (lists xs : List (List ℕ)) : Type 0 where
    pub built : AreBuilt model lists
    pub left : AreToPlace model lists xs

  is_first : (it : Item) → holds (item_nodes it) (first_node (item_nodes it)) ≡ true
  is_first (Visit n) = ap (λ b. b || false) (eq-eqb n n refl)
  is_first (PickupAndDelivery p d) = ap (λ b. b || ((p == d) || false)) (eq-eqb p p refl)

  zero_one : (b : Bool) → one b ≡ 0 → b ≡ false
  zero_one true e = absurd (omega (arith, e))
  zero_one false e = refl

  not_there : (n : ℕ) (xs : List (List ℕ)) → firsts n xs ≡ 0 → (item : List ℕ) → In xs item → (first_node item == n) ≡ false
  not_there n [] none item there = absurd there
  not_there n (x ∷ xs) none item (inl same) =
      let count = sum_by-cons (λ item. one (first_node item == n)) x xs in
      ap (λ i. first_node i == n) same ∙ zero_one (first_node x == n) (omega (arith, count, none))
  not_there n (x ∷ xs) none item (inr later) =
      let count = sum_by-cons (λ item. one (first_node item == n)) x xs in
      not_there n xs (omega (arith, count, none)) item later

  tail_left : (lists : List (List ℕ)) (item : List ℕ) (rest : List (List ℕ)) → AreToPlace model lists (item ∷ rest) → AreToPlace model lists rest
  tail_left lists item rest left = record {
    among = λ y there. left.among y (inr there);
    inactive = λ y there. left.inactive y (inr there);
    once = λ n. let all = left.once n in let count = sum_by-cons (λ item. one (first_node item == n)) item rest in omega (arith, all, count);
  }

  -- an insertion that is offered for an item in no list, and for which the groups have room, leaves open lists
  pub offered_open : (lists : List (List ℕ)) (it : Item) (insertion : Insertion) → AreBuilt model lists → IsItem model it
      → is_active lists (first_node (item_nodes it)) ≡ false → fits_beside model lists (item_nodes it) ≡ true
      → IsOffered lists (item_nodes it) insertion → AreBuilt model (inserted lists insertion)
  offered_open lists it insertion built valid inactive fits offered =
      let v = insertion.vehicle in
      let list = inserted_in (route lists v) (item_nodes it) insertion.places in
      let added : IsAdded model lists v (item_nodes it) list = item_added model lists v it insertion.places
      built offered.vehicle valid inactive (places_in it (route lists v) insertion.places offered.places) in
      let opens : is_open model (with_route lists v list) ≡ true =
      is_open-local model lists v list (item_nodes it) built.are_open offered.vehicle added.nodes_are
      ∙ and_both (is_route_open model v list) (fits_beside model lists (item_nodes it)) offered.opens fits in
      subst (λ item. AreBuilt model (with_route lists v (inserted_in (route lists v) item insertion.places)))
      (sym offered.item_is) (AreBuilt-added model lists v (item_nodes it) list built added opens)

  insertion_open : (lists : List (List ℕ)) (item : List ℕ) (rest : List (List ℕ)) (insertion : Insertion)
      → IsStillOpen lists (item ∷ rest) → fits_beside model lists item ≡ true → IsOffered lists item insertion
      → IsStillOpen (inserted lists insertion) rest
  insertion_open lists item rest insertion before fits offered =
      subst (λ i. IsStillOpen (inserted_by i) rest) (sym offered.item_is) (made (item_is model well_formed item (before.left.among item (inl refl))))
    where
      inserted_by : List ℕ → List (List ℕ)
      inserted_by i = with_route lists insertion.vehicle (inserted_in (route lists insertion.vehicle) i insertion.places)

      made : (it : Item) × (item_nodes it ≡ item) × IsItem model it → IsStillOpen (inserted_by item) rest
      made (it, is, valid) =
          let v = insertion.vehicle in
          let list = inserted_in (route lists v) item insertion.places in
          let places : In (places_for (item_nodes it) (route lists v)) insertion.places =
          subst (λ nodes. In (places_for nodes (route lists v)) insertion.places) (sym is) offered.places in
          let inactive : is_active lists (first_node (item_nodes it)) ≡ false = ap (λ nodes. is_active lists (first_node nodes)) is
          ∙ before.left.inactive item (inl refl) in
          let added : IsAdded model lists v item list = subst (λ nodes. IsAdded model lists v nodes (inserted_in (route lists v) nodes insertion.places)) is
          (item_added model lists v it insertion.places before.built offered.vehicle valid inactive (places_in it (route lists v) insertion.places places)) in
          let opens : is_open model (with_route lists v list) ≡ true =
          is_open-local model lists v list item before.built.are_open offered.vehicle added.nodes_are
          ∙ and_both (is_route_open model v list) (fits_beside model lists item) offered.opens fits in
          record {
            built = AreBuilt-added model lists v item list before.built added opens;
            left = record {
              among = λ y there. before.left.among y (inr there);
              inactive = λ y there. is_active-added lists v list item (first_node y) offered.vehicle (added.nodes_are (first_node y))
                  ∙ ap₂ (λ a b. a || b) (apart_from y there) (before.left.inactive y (inr there));
              once = (tail_left lists item rest before.left).once;
            };
          }
        where
          apart_from : (y : List ℕ) → In rest y → holds item (first_node y) ≡ false
          apart_from y there = fails (holds item (first_node y)) (λ held.
              let here = owned model well_formed item (before.left.among item (inl refl)) (first_node y) held in
              let other = item_is model well_formed y (before.left.among y (inr there)) in
              let own = owned model well_formed y (before.left.among y (inr there)) (first_node y)
              (subst (λ nodes. holds nodes (first_node nodes) ≡ true) other.1 (is_first other.0)) in
              let same : first_node y ≡ first_node item = sym own ∙ here in
              let all = before.left.once (first_node item) in
              let count = sum_by-cons (λ i. one (first_node i == first_node item)) item rest in
              let mine : one (first_node item == first_node item) ≡ 1 = ap one (eq-eqb (first_node item) (first_node item) refl) in
              clash (first_node y == first_node item) (eq-eqb (first_node y) (first_node item) same)
              (not_there (first_node item) rest (omega (arith, all, count, mine)) y there))

  -- ---- items in their turns

  pub put_back_open : (wide : Bool) (lists : List (List ℕ)) (words : Lcg) (item : List ℕ) (rest : List (List ℕ))
      → IsStillOpen lists (item ∷ rest) → IsStillOpen (put_back model wide (lists, words) item).0 rest
  put_back_open wide lists words item rest before = by (fits_beside model lists item) refl
    where
      stays : IsStillOpen lists rest
      stays = record { built = before.built; left = tail_left lists item rest before.left }

      by_offer : fits_beside model lists item ≡ true → (o : Option Insertion)
          → offer_at model wide lists item ((zeros words).0 / 7) ≡ o → IsStillOpen (with_offer model lists o) rest
      by_offer fits None e = stays
      by_offer fits (Some insertion) e = paid (is_paid model lists insertion)
        where
          paid : (b : Bool) → IsStillOpen (cond b (inserted lists insertion) lists) rest
          paid true = insertion_open lists item rest insertion before fits (chosen_is wide lists item ((zeros words).0 / 7) insertion e)
          paid false = stays

      by : (b : Bool) → fits_beside model lists item ≡ b
          → (let next : List (List ℕ) × Lcg = elim b [
            | true ↦ let word = zeros words in (with_offer model lists (offer_at model wide lists item (word.0 / 7)), word.1)
            | false ↦ (lists, words)
          ] in IsStillOpen next.0 rest)
      by true e = by_offer e (offer_at model wide lists item ((zeros words).0 / 7)) refl
      by false e = stays

  items_open : (wide : Bool) (xs lists : List (List ℕ)) (words : Lcg) → IsStillOpen lists xs → AreBuilt model (fold (put_back model wide) (lists, words) xs).0
  items_open wide [] lists words before = before.built
  items_open wide (item ∷ rest) lists words before =
      let next = put_back model wide (lists, words) item in
      items_open wide rest next.0 next.1 (put_back_open wide lists words item rest before)

  pub recreated_open : (wide : Bool) (xs lists : List (List ℕ)) (words : Lcg) → IsStillOpen lists xs → AreBuilt model (recreated model wide xs lists words).0
  unfolding recreated
  recreated_open wide xs lists words before = items_open wide xs lists words before

  -- ---- a step

  remade_open : (ruin : Ruin) (lists : List (List ℕ)) (words : Lcg) → AreBuilt model lists → AreBuilt model (remade model ruin lists words).0
  remade_open ruin lists words built =
      let rest = ruined model ruin lists words in
      let order = turns model rest.lists rest.words in
      let wide = draw 8 order.1 in
      recreated_open (wide.0 == 0) order.0 rest.lists wide.1
      (record { built = ruined_open model ruin lists words built; left = to_place rest.lists order.0 (turns_permutation model rest.lists rest.words) })

  step_open : (ruin : Ruin) (tries : ℕ) (state : RefineState) → AreBuilt model state.search.lists → AreBuilt model (step_from model ruin tries state).lists
  unfolding step_from
  step_open ruin tries state built = by (is_empty (visits model))
    where
      by : (b : Bool) → (let step : RefineStep = elim b [
        | true ↦ record { lists = state.search.lists; is_accepted = false; words = state.words }
        | false ↦ judged_at model (heat_at ruin.heat tries (suc state.search.used)) state.search.lists (remade model ruin state.search.lists state.words)
      ] in AreBuilt model step.lists)
      by true = built
      by false = remade_open ruin state.search.lists state.words built

pub steps_stay_open : StepsStayOpen
steps_stay_open model ruin tries state well_formed built = step_open model well_formed ruin tries state built
