-- Where nodes stand in a list that keeps the front and the end of another one, and which pairs it serves.
use Rattle.std.proofs.Common.{◌≡◌, ◌∙◌, inl, inr, ℕ, ◌+◌, ◌-◌, ◌<◌, ◌≤◌, Bool, true, false, cond, not, List, [], ◌∷◌, ◌++◌, length, take, drop, refl, sym, ap}
use Rattle.std.proofs.Common.{ap₂, subst, arith}
use Rattle.std.specs.Prelude.{IsTrue, ◌&&◌, ◌||◌, ◌==◌, nat_lt, slice_index, slice_range, slice_set, find, Some}
use Rattle.std.specs.List.{list_all}
use Rattle.std.proofs.lemmas.Bool.{cases_lt}
use Rattle.std.proofs.lemmas.Bool.Decides.{nat_tests}
use Rattle.std.proofs.lemmas.List.{take-append-drop, get_or-take, get_or-drop, length-drop, length-take-le, get_or-set_same, get_or-set_other}
use Rattle.std.proofs.lemmas.List.Folds.{drop_split, list_any-append}
use Rattle.vr_model.specs.deciding.Testing.{and_left, and_right, and_both, or_left, or_right, eq_of_test, test_of_eq}
use Rattle.vr_model.specs.declared.records.Model.{Model}
use Rattle.vr_model.specs.declared.records.Pair.{Pair}
use Rattle.vr_model.specs.moves.Moves.{comes_before}
use Rattle.vr_model.specs.routes.Routes.{route, holds, is_active}
use Rattle.vr_model.specs.routes.Rules.{place_of, serves_pair}
use Rattle.vr_model.specs.tables.WellFormed.{IsWellFormed}
use Rattle.vr_model.proofs.moves.Times.{all_held, all_of_held}
use Rattle.vr_model.proofs.routes.Lists.{held_at, place_of_held}
use Rattle.vr_model.proofs.tables.Members.{In}
use Rattle.vr_model.proofs.tables.Tests.{clash, eq_turned, fails, lt_of_test, or-false_left, or-false_right, same_tests, test_of_lt}
use Rattle.vr_lists.proofs.PlaceLemmas.{holds-place, place_of-within}
use Rattle.vr_routes.specs.Seats.{IsSeat}
use Rattle.vr_routes.proofs.SeatLemmas.{active_at}
use Rattle.vr_reach.specs.Spliced.{spliced}
use Rattle.vr_reach.proofs.Splicing.{at_front, at_middle, at_back, long}
use Rattle.vr_pathfilters.proofs.PairsFound.{is_of, pair_found}
use Rattle.vr_pathfilters.proofs.Places.{place_is}
use Rattle.vr_pathfilters.specs.Pairs.{AreMarked, IsNewList, is_at_mark, serves_if_any, serves_node, serves_unmarked}

-- ---- pairs of nodes that are not among those between

-- nodes that are not x, between others
holds-without : (xs ms zs : List ℕ) (x : ℕ) → holds ms x ≡ false → holds (xs ++ (ms ++ zs)) x ≡ holds (xs ++ zs) x
holds-without xs ms zs x none =
    list_any-append (λ y. x == y) xs (ms ++ zs)
    ∙ (ap (λ b. holds xs x || b) (list_any-append (λ y. x == y) ms zs ∙ ap (λ b. b || holds zs x) none)
    ∙ sym (list_any-append (λ y. x == y) xs zs))

before-behind : (ms zs : List ℕ) (x y : ℕ) → holds ms x ≡ false → comes_before (ms ++ zs) x y ≡ comes_before zs x y
before-behind [] zs x y none = refl
before-behind (m ∷ ms) zs x y none =
    ap (λ b. cond b (holds (ms ++ zs) y) (comes_before (ms ++ zs) x y)) (eq_turned m x ∙ or-false_left (x == m) (holds ms x) none)
    ∙ before-behind ms zs x y (or-false_right (x == m) (holds ms x) none)

before-without : (xs ms zs : List ℕ) (x y : ℕ) → holds ms x ≡ false → holds ms y ≡ false → comes_before (xs ++ (ms ++ zs)) x y ≡ comes_before (xs ++ zs) x y
before-without [] ms zs x y none none_too = before-behind ms zs x y none
before-without (a ∷ xs) ms zs x y none none_too =
    ap₂ (λ h c. cond (a == x) h c) (holds-without xs ms zs y none_too) (before-without xs ms zs x y none none_too)

serves-without : (xs ms zs : List ℕ) (pair : Pair) → holds ms pair.pickup ≡ false
    → holds ms pair.delivery ≡ false → serves_pair (xs ++ (ms ++ zs)) pair ≡ serves_pair (xs ++ zs) pair
serves-without xs ms zs pair none none_too =
    ap₂ (λ h c. not h || c) (ap₂ (λ p d. p || d) (holds-without xs ms zs pair.pickup none) (holds-without xs ms zs pair.delivery none_too))
    (before-without xs ms zs pair.pickup pair.delivery none none_too)

module _ (old middle : List ℕ) (front behind : ℕ) (order : front ≤ behind) where
  whole : take front old ++ (slice_range old front behind ++ drop behind old) ≡ old
  whole = ap (λ xs. take front old ++ xs) (sym (drop_split old front behind order)) ∙ take-append-drop front old

  -- a pair of nodes that neither come nor go
  serves-kept : (pair : Pair) → holds middle pair.pickup ≡ false → holds middle pair.delivery ≡ false
      → holds (slice_range old front behind) pair.pickup ≡ false → holds (slice_range old front behind) pair.delivery ≡ false
      → serves_pair (spliced old front behind middle) pair ≡ serves_pair old pair
  serves-kept pair a b c d =
      serves-without (take front old) middle (drop behind old) pair a b
      ∙ (sym (serves-without (take front old) (slice_range old front behind) (drop behind old) pair c d)
      ∙ ap (λ xs. serves_pair xs pair) whole)

-- ---- the pair of a node

-- what all entries pass, one that is found passes
found_passes : (list : List ℕ) (q : Pair → Bool) (pairs : List Pair) → IsTrue (list_all (serves_pair list) pairs) → IsTrue (serves_if_any list (find q pairs))
found_passes list q [] all = refl
found_passes list q (pair ∷ pairs) all = by (q pair) (found_passes list q pairs (and_right (serves_pair list pair) (list_all (serves_pair list) pairs) all))
  where
    by : (b : Bool) → IsTrue (serves_if_any list (find q pairs)) → IsTrue (serves_if_any list (cond b (Some pair) (find q pairs)))
    by true rest = and_left (serves_pair list pair) (list_all (serves_pair list) pairs) all
    by false rest = rest

all_among : (p : Pair → Bool) (pairs : List Pair) → ((pair : Pair) → In pairs pair → IsTrue (p pair)) → IsTrue (list_all p pairs)
all_among p [] each_one = refl
all_among p (q ∷ qs) each_one = and_both (p q) (list_all p qs) (each_one q (inl refl)) (all_among p qs (λ pair among. each_one pair (inr among)))

-- ---- which pairs are served afterwards

module _ (model : Model) (well_formed : IsWellFormed model) (old middle : List ℕ) (front behind : ℕ)
    (order : front ≤ behind) (before : IsTrue (list_all (serves_pair old) model.pairs)) where
  abbrev new : List ℕ
  new = spliced old front behind middle

  abbrev gone : List ℕ
  gone = slice_range old front behind

  -- all pairs are where those of the nodes that come and of those that go are
  pub serves-spliced : (list_all (serves_node model new) middle && list_all (serves_node model new) gone) ≡ list_all (serves_pair new) model.pairs
  serves-spliced =
      same_tests (list_all (serves_node model new) middle && list_all (serves_node model new) gone) (list_all (serves_pair new) model.pairs) forth back
    where
      back : IsTrue (list_all (serves_pair new) model.pairs) → IsTrue (list_all (serves_node model new) middle && list_all (serves_node model new) gone)
      back all = and_both (list_all (serves_node model new) middle) (list_all (serves_node model new) gone)
          (all_of_held (serves_node model new) middle (λ x held. found_passes new (is_of x) model.pairs all))
          (all_of_held (serves_node model new) gone (λ x held. found_passes new (is_of x) model.pairs all))

      forth : IsTrue (list_all (serves_node model new) middle && list_all (serves_node model new) gone) → IsTrue (list_all (serves_pair new) model.pairs)
      forth both = all_among (serves_pair new) model.pairs by
        where
          asked : (nodes : List ℕ) → IsTrue (list_all (serves_node model new) nodes) → (pair : Pair) → In model.pairs pair
              → (x : ℕ) → IsTrue (is_of x pair) → IsTrue (holds nodes x) → IsTrue (serves_pair new pair)
          asked nodes all pair among x of held = subst (λ found. IsTrue (serves_if_any new found))
              (pair_found model.pairs pair x well_formed.no_node_in_pairs_twice among of) (all_held (serves_node model new) nodes all x held)

          come : IsTrue (list_all (serves_node model new) middle)
          come = and_left (list_all (serves_node model new) middle) (list_all (serves_node model new) gone) both

          go : IsTrue (list_all (serves_node model new) gone)
          go = and_right (list_all (serves_node model new) middle) (list_all (serves_node model new) gone) both

          of_pickup : (pair : Pair) → IsTrue (is_of pair.pickup pair)
          of_pickup pair = or_left (pair.pickup == pair.pickup) (pair.delivery == pair.pickup) (test_of_eq pair.pickup pair.pickup refl)

          of_delivery : (pair : Pair) → IsTrue (is_of pair.delivery pair)
          of_delivery pair = or_right (pair.pickup == pair.delivery) (pair.delivery == pair.delivery) (test_of_eq pair.delivery pair.delivery refl)

          all_pass : (pairs : List Pair) → IsTrue (list_all (serves_pair old) pairs) → (pair : Pair) → In pairs pair → IsTrue (serves_pair old pair)
          all_pass [] all pair among = absurd among
          all_pass (q ∷ qs) all pair (inl e) =
              subst (λ p. IsTrue (serves_pair old p)) (sym e) (and_left (serves_pair old q) (list_all (serves_pair old) qs) all)
          all_pass (q ∷ qs) all pair (inr more) = all_pass qs (and_right (serves_pair old q) (list_all (serves_pair old) qs) all) pair more

          by : (pair : Pair) → In model.pairs pair → IsTrue (serves_pair new pair)
          by pair among = cases (holds middle pair.pickup) (holds middle pair.delivery) (holds gone pair.pickup) (holds gone pair.delivery) refl refl refl refl
            where
              cases : (a b c d : Bool) → holds middle pair.pickup ≡ a → holds middle pair.delivery ≡ b
                  → holds gone pair.pickup ≡ c → holds gone pair.delivery ≡ d → IsTrue (serves_pair new pair)
              cases true b c d e f g h = asked middle come pair among pair.pickup (of_pickup pair) e
              cases false true c d e f g h = asked middle come pair among pair.delivery (of_delivery pair) f
              cases false false true d e f g h = asked gone go pair among pair.pickup (of_pickup pair) g
              cases false false false true e f g h = asked gone go pair among pair.delivery (of_delivery pair) h
              cases false false false false e f g h = serves-kept old middle front behind order pair e f g h ∙ all_pass model.pairs before pair among

-- ---- places

absent_place : (xs : List ℕ) (x : ℕ) → holds xs x ≡ false → length xs ≡ place_of xs x
absent_place xs x none =
    let low = place_of-within xs x in
    let past : nat_lt (place_of xs x) (length xs) ≡ false = sym (holds-place xs x) ∙ none in
    Prim.grind (arith, nat_tests, low, past)

module _ {lists : List (List ℕ)} {v front behind : ℕ} {middle marks : List ℕ} (is : IsNewList lists v front behind middle marks) where
  abbrev list_before : List ℕ
  list_before = route lists v

  abbrev list_after : List ℕ
  list_after = spliced (route lists v) front behind middle

  pub length_after : length list_after ≡ front + (length middle + (length list_before - behind))
  length_after = long list_before middle front behind is.seams

  -- a node between the ends
  pub place_between : (x k : ℕ) → k < length middle → slice_index middle k ≡ x → front + k ≡ place_of list_after x
  place_between x k low at =
      let n = length_after in
      let same : front + k - front ≡ k = omega arith in
      place_is list_after x (front + k) is.distinct (omega (arith, n, low))
      (at_middle list_before middle front behind is.seams (front + k) (omega arith) (omega (arith, low)) ∙ (ap (λ j. slice_index middle j) same ∙ at))

  -- a node of the front
  pub place_in_front : (x k : ℕ) → IsSeat lists x v k → k < front → k ≡ place_of list_after x
  place_in_front x k seat low =
      let n = length_after in
      place_is list_after x k is.distinct (omega (arith, n, low)) (at_front list_before middle front behind is.seams k low ∙ seat.found)

  -- a node of the end
  pub place_behind : (x k : ℕ) → IsSeat lists x v k → behind ≤ k → front + length middle + (k - behind) ≡ place_of list_after x
  place_behind x k seat past =
      let n = length_after in
      let low = seat.place in
      let j : ℕ = front + length middle + (k - behind) in
      let same : j - front - length middle + behind ≡ k = omega (arith, past) in
      place_is list_after x j is.distinct (omega (arith, n, low, past))
      (at_back list_before middle front behind is.seams j (omega arith) (omega arith) ∙ (ap (λ i. slice_index list_before i) same ∙ seat.found))

  -- a node that is not between the ends, and was not at them
  pub place_nowhere : (x : ℕ) → holds middle x ≡ false → ((k : ℕ) → IsSeat lists x v k → (front ≤ k) × (k < behind)) → length list_after ≡ place_of list_after x
  place_nowhere x none within = absent_place list_after x
      (list_any-append (λ y. x == y) (take front list_before) (middle ++ drop behind list_before)
      ∙ ap₂ (λ a b. a || b) not_in_front (list_any-append (λ y. x == y) middle (drop behind list_before) ∙ ap₂ (λ a b. a || b) none not_behind))
    where
      not_in_front : holds (take front list_before) x ≡ false
      not_in_front = fails (holds (take front list_before) x) (λ h.
          let p = place_of_held (take front list_before) x h in
          let order = is.seams.order in
          let high = is.seams.high in
          let n = length-take-le front list_before (omega (arith, order, high)) in
          let low : p.0 < front = let l = p.1 in omega (arith, n, l) in
          let past = (within p.0
          (record { vehicle = is.vehicle; place = omega (arith, low, order, high); found = sym (get_or-take front list_before p.0 0 low) ∙ p.2 })).0 in
          omega (arith, low, past))

      not_behind : holds (drop behind list_before) x ≡ false
      not_behind = fails (holds (drop behind list_before) x) (λ h.
          let p = place_of_held (drop behind list_before) x h in
          let n = length-drop behind list_before in
          let low = p.1 in
          let less = (within (behind + p.0)
          (record { vehicle = is.vehicle; place = omega (arith, n, low); found = sym (get_or-drop behind list_before p.0 0) ∙ p.2 })).1 in
          omega (arith, less))

  -- a node with another place in the lists before
  pub place_elsewhere : (x w j : ℕ) → holds middle x ≡ false → IsSeat lists x w j
      → (w ≡ v → (front ≤ j) × (j < behind)) → length list_after ≡ place_of list_after x
  place_elsewhere x w j none seat within = place_nowhere x none (λ k here.
      let same = is.once x v k w j here seat in
      subst (λ i. (front ≤ i) × (i < behind)) (sym same.1) (within (sym same.0)))

  -- a node in no list before
  pub place_inactive : (x : ℕ) → holds middle x ≡ false → is_active lists x ≡ false → length list_after ≡ place_of list_after x
  place_inactive x none inactive =
      place_nowhere x none (λ k here. absurd (clash (is_active lists x) (active_at lists x v k here.vehicle here.place here.found) inactive))

  -- a node that is not found by its mark
  pub not_between : (x k : ℕ) → k ≡ slice_index marks x → (nat_lt k (length middle) && (slice_index middle k == x)) ≡ false → holds middle x ≡ false
  not_between x k marked failed = fails (holds middle x) (λ h.
      clash (nat_lt k (length middle) && (slice_index middle k == x))
      (subst (λ i. IsTrue (nat_lt i (length middle) && (slice_index middle i == x))) (sym marked) (is.marked x h))
      failed)

  -- and one that is
  pub found_between : (x k : ℕ) → (nat_lt k (length middle) && (slice_index middle k == x)) ≡ true → front + k ≡ place_of list_after x
  found_between x k found = place_between x k
      (lt_of_test k (length middle) (and_left (nat_lt k (length middle)) (slice_index middle k == x) found))
      (eq_of_test (slice_index middle k) x (and_right (nat_lt k (length middle)) (slice_index middle k == x) found))

-- ---- marks

-- the node at a place of a list has a place of it as its mark
abbrev pub IsMarkedAt : List ℕ → List ℕ → ℕ → Type 0
IsMarkedAt list marks j = (slice_index marks (slice_index list j) < length list)
    × (slice_index list (slice_index marks (slice_index list j)) ≡ slice_index list j)

-- one node more is marked
pub marked_more : (list marks : List ℕ) (k x : ℕ) → k < length list → slice_index list k ≡ x → x < length marks
    → ((j : ℕ) → j < k → IsMarkedAt list marks j) → (j : ℕ) → j < k + 1 → IsMarkedAt list (slice_set marks x k) j
marked_more list marks k x low at within marked j here = by (x == y) refl
  where
    y : ℕ
    y = slice_index list j

    by : (b : Bool) → (x == y) ≡ b → IsMarkedAt list (slice_set marks x k) j
    by true e =
        let same : x ≡ y = eq_of_test x y e in
        let is : slice_index (slice_set marks x k) y ≡ k = subst (λ z. slice_index (slice_set marks x k) z ≡ k) same (get_or-set_same marks x k 0 within) in
        (omega (arith, is, low), ap (λ i. slice_index list i) is ∙ (at ∙ same))
    by false e =
        let is : slice_index (slice_set marks x k) y ≡ slice_index marks y = get_or-set_other marks
        x y k 0 (λ same. clash (x == y) (test_of_eq x y (sym same)) e) in
        let before = marked j earlier in
        let there = before.0 in
        (omega (arith, is, there), ap (λ i. slice_index list i) is ∙ before.1)
      where
        earlier : j < k
        earlier = elim (cases_lt j k) [
          | inl before ↦ before
          | inr past ↦ absurd (let last : k ≡ j = omega (arith, here, past) in clash (x == y) (test_of_eq x y (sym at ∙ ap (slice_index list) last)) e)
        ]

-- all are
pub all_marked : (list marks : List ℕ) (n : ℕ) → length list ≤ n → ((j : ℕ) → j < n → IsMarkedAt list marks j) → AreMarked list marks
all_marked list marks n high marked x held =
    let p = place_of_held list x held in
    let low = p.1 in
    let at = marked p.0 (omega (arith, low, high)) in
    let y = slice_index list p.0 in
    subst (λ z. IsTrue (is_at_mark list marks z)) p.2
    (and_both (nat_lt (slice_index marks y) (length list)) (slice_index list (slice_index marks y) == y)
    (test_of_lt (slice_index marks y) (length list) at.0) (test_of_eq (slice_index list (slice_index marks y)) y at.1))

-- a node that is marked is one of the list
marked_held : (list marks : List ℕ) (x : ℕ) → IsTrue (is_at_mark list marks x) → IsTrue (holds list x)
marked_held list marks x marked =
    held_at list x (slice_index marks x)
    (lt_of_test (slice_index marks x) (length list)
    (and_left (nat_lt (slice_index marks x) (length list)) (slice_index list (slice_index marks x) == x) marked))
    (eq_of_test (slice_index list (slice_index marks x)) x
    (and_right (nat_lt (slice_index marks x) (length list)) (slice_index list (slice_index marks x) == x) marked))

-- where a list serves the pairs of some nodes, those that are marked need no test
pub serves-unmarked : (model : Model) (list middle marks gone : List ℕ) → IsTrue (list_all (serves_node model list) middle)
    → list_all (serves_unmarked model list middle marks) gone ≡ list_all (serves_node model list) gone
serves-unmarked model list middle marks [] served = refl
serves-unmarked model list middle marks (x ∷ xs) served =
    ap₂ (λ a b. a && b) (by (is_at_mark middle marks x) refl) (serves-unmarked model list middle marks xs served)
  where
    by : (b : Bool) → is_at_mark middle marks x ≡ b → (b || serves_node model list x) ≡ serves_node model list x
    by true marked = sym (all_held (serves_node model list) middle served x (marked_held middle marks x marked))
    by false marked = refl
