-- The pairs of a list come in turn exactly where the list keeps a policy.
use Rattle.std.proofs.Common.{◌≡◌, ◌∙◌, ℕ, ◌+◌, ◌<◌, ◌≤◌, List, [], ◌∷◌, ◌++◌, Bool, true, false, cond, not, length, take, refl, sym, ap, ap₂, subst, inl, inr}
use Rattle.std.proofs.Common.{arith}
use Rattle.std.specs.Prelude.{IsTrue, nat_lt, ◌==◌, ◌&&◌, ◌||◌, count_by, map, slice_index}
use Rattle.std.specs.List.{list_all}
use Rattle.std.proofs.lemmas.Bool.{cases_lt}
use Rattle.std.proofs.lemmas.Bool.Decides.{nat_tests}
use Rattle.std.proofs.lemmas.List.Concat.{flat_map-cons}
use Rattle.std.proofs.lemmas.List.Folds.{list_any-append}
use Rattle.vr_model.specs.deciding.Testing.{and_left, and_right, and_both, or_cases, or_left, or_right, eq_of_test, test_of_eq}
use Rattle.vr_model.specs.declared.records.Model.{Model}
use Rattle.vr_model.specs.declared.records.Pair.{Pair}
use Rattle.vr_model.specs.declared.records.Policy.{Policy}
use Rattle.vr_model.specs.declared.records.Policy.TheVariants.{Any, Lifo, Fifo}
use Rattle.vr_model.specs.routes.Routes.{holds, is_distinct}
use Rattle.vr_model.specs.routes.Rules.{pairs_in, place_of, policy_allows, serves_pair}
use Rattle.vr_model.specs.tables.Numbers.{each}
use Rattle.vr_model.specs.tables.WellFormed.{IsWellFormed, pair_nodes}
use Rattle.vr_model.specs.tables.Tables.{vehicle_at}
use Rattle.vr_model.proofs.moves.Times.{held_times, times_append, times_of_distinct}
use Rattle.vr_model.proofs.routes.Lists.{is_distinct-right}
use Rattle.vr_model.proofs.tables.Members.{In, of_filter, to_filter}
use Rattle.vr_model.proofs.tables.Tests.{fails, lt_of_test, test_of_lt, same_tests, list_all-true}
use Rattle.vr_lists.proofs.PlaceLemmas.{holds-place, serves_pair-places}
use Rattle.vr_pathfilters.specs.Turns.{TurnsArePolicies, deliveries_in, is_in_turn, pickups_in, takes_turns}
use Rattle.vr_pathfilters.proofs.Counting.{AreServed, count_same, counts_first, counts_last, first_counts, last_counts}
use Rattle.vr_pathfilters.proofs.Places.{counted_first, is_same_one, place_found}

-- ---- tests of all

-- what all pass, one of them passes
pub one_passes : {A : Type 0} (test : A → Bool) (xs : List A) → IsTrue (list_all test xs) → (x : A) → In xs x → IsTrue (test x)
one_passes test [] all x among = absurd among
one_passes test (y ∷ ys) all x (inl e) = subst (λ z. IsTrue (test z)) (sym e) (and_left (test y) (list_all test ys) all)
one_passes test (y ∷ ys) all x (inr more) = one_passes test ys (and_right (test y) (list_all test ys) all) x more

pub all_pass : {A : Type 0} (test : A → Bool) (xs : List A) → ((x : A) → In xs x → IsTrue (test x)) → IsTrue (list_all test xs)
all_pass test [] each_one = refl
all_pass test (y ∷ ys) each_one = and_both (test y) (list_all test ys) (each_one y (inl refl)) (all_pass test ys (λ x among. each_one x (inr among)))

-- ---- the pickups and the deliveries of pairs

abbrev pub pickup_of : Pair → ℕ
pickup_of pair = pair.pickup

abbrev pub delivery_of : Pair → ℕ
delivery_of pair = pair.delivery

module _ (f : Pair → ℕ) (is_node : (pair : Pair) → IsTrue (holds (pair_nodes pair) (f pair))) where
  held_among : (pairs : List Pair) (x : ℕ) → IsTrue (holds (map f pairs) x) → IsTrue (holds (each pairs pair_nodes) x)
  held_among [] x held = held
  held_among (q ∷ qs) x held =
      subst (λ xs. IsTrue (holds xs x)) (sym (flat_map-cons pair_nodes q qs))
      (list_any-append (λ y. x == y) (pair_nodes q) (each qs pair_nodes)
      ∙ (elim (or_cases (x == f q) (holds (map f qs) x) held) [
        | inl here ↦ or_left (holds (pair_nodes q) x) (holds (each qs pair_nodes) x)
            (subst (λ y. IsTrue (holds (pair_nodes q) y)) (sym (eq_of_test x (f q) here)) (is_node q))
        | inr later ↦ or_right (holds (pair_nodes q) x) (holds (each qs pair_nodes) x) (held_among qs x later)
      ]))

  -- no pair has one that another pair has
  pub numbers_distinct : (pairs : List Pair) → IsTrue (is_distinct (each pairs pair_nodes)) → IsTrue (is_distinct (map f pairs))
  numbers_distinct [] distinct = refl
  numbers_distinct (q ∷ qs) distinct =
      let both = subst (λ xs. IsTrue (is_distinct xs)) (flat_map-cons pair_nodes q qs) distinct in
      and_both (not (holds (map f qs) (f q))) (is_distinct (map f qs))
      (ap not (fails (holds (map f qs) (f q)) (λ h.
      let few = times_of_distinct (pair_nodes q ++ each qs pair_nodes) both (f q) in
      let sum = times_append (f q) (pair_nodes q) (each qs pair_nodes) in
      let here = held_times (f q) (pair_nodes q) (is_node q) in
      let later = held_times (f q) (each qs pair_nodes) (held_among qs (f q) h) in
      omega (arith, few, sum, here, later))))
      (numbers_distinct qs (is_distinct-right (pair_nodes q) (each qs pair_nodes) both))

pub pickups_distinct : (model : Model) → IsWellFormed model → IsTrue (is_distinct (map pickup_of model.pairs))
pickups_distinct model well_formed =
    numbers_distinct pickup_of (λ pair. or_left (pair.pickup == pair.pickup) (holds (pair.delivery ∷ []) pair.pickup) (test_of_eq pair.pickup pair.pickup refl))
    model.pairs well_formed.no_node_in_pairs_twice

pub deliveries_distinct : (model : Model) → IsWellFormed model → IsTrue (is_distinct (map delivery_of model.pairs))
deliveries_distinct model well_formed = numbers_distinct delivery_of
    (λ pair. or_right (pair.delivery == pair.pickup) (holds (pair.delivery ∷ []) pair.delivery)
    (or_left (pair.delivery == pair.delivery) false (test_of_eq pair.delivery pair.delivery refl))) model.pairs well_formed.no_node_in_pairs_twice

-- ---- a list that serves its pairs

served_after : (p d n : ℕ) → cond (nat_lt p d) (nat_lt d n) (d == n) ≡ true → p < n → p < d
served_after p d n is low = Prim.grind (arith, nat_tests)

served_within : (p d n : ℕ) → cond (nat_lt p d) (nat_lt d n) (d == n) ≡ true → p < n → d < n
served_within p d n is low = Prim.grind (arith, nat_tests)

served_before : (p d n : ℕ) → cond (nat_lt p d) (nat_lt d n) (d == n) ≡ true → d < n → p < d
served_before p d n is low = Prim.grind (arith, nat_tests)

module _ (model : Model) (well_formed : IsWellFormed model) (list : List ℕ)
    (distinct : IsTrue (is_distinct list)) (serves : IsTrue (list_all (serves_pair list) model.pairs)) where
  abbrev pub start : Pair → ℕ
  start pair = place_of list pair.pickup

  abbrev pub end : Pair → ℕ
  end pair = place_of list pair.delivery

  is_served : (pair : Pair) → In model.pairs pair → cond (nat_lt (start pair) (end pair)) (nat_lt (end pair) (length list)) (end pair == length list) ≡ true
  is_served pair among = sym (serves_pair-places list pair distinct) ∙ one_passes (serves_pair list) model.pairs serves pair among

  pub are_served : AreServed model.pairs start end (length list)
  are_served = record {
    of_pickup = λ x among low.
        (served_after (start x) (end x) (length list) (is_served x among) low, served_within (start x) (end x) (length list) (is_served x among) low);
    of_delivery = λ x among low. served_before (start x) (end x) (length list) (is_served x among) low;
    apart = λ x y among there low same.
        let at = place_found list x.pickup low in
        let at_too = place_found list y.pickup (subst (λ k. k < length list) same low) in
        ap end (is_same_one pickup_of model.pairs (pickups_distinct model well_formed) x y among there (sym at ∙ (ap (slice_index list) same ∙ at_too)));
  }

  pub pickups_first : (k : ℕ) → k ≤ length list → pickups_in model (take k list) ≡ count_by (λ z. nat_lt (start z) k) model.pairs
  pickups_first k low = counted_first pickup_of model.pairs (pickups_distinct model well_formed) list distinct k low

  pub deliveries_first : (k : ℕ) → k ≤ length list → deliveries_in model (take k list) ≡ count_by (λ z. nat_lt (end z) k) model.pairs
  deliveries_first k low = counted_first delivery_of model.pairs (deliveries_distinct model well_formed) list distinct k low

  -- as many are picked up as are delivered
  pub balanced : pickups_in model (take (length list) list) ≡ deliveries_in model (take (length list) list)
  balanced =
      pickups_first (length list) (omega arith)
      ∙ (count_same (λ z. nat_lt (start z) (length list)) (λ z. nat_lt (end z) (length list)) model.pairs
      (λ z among low. test_of_lt (end z) (length list) (are_served.of_pickup z among (lt_of_test (start z) (length list) low)).1)
      (λ z among low.
      let ends = lt_of_test (end z) (length list) low in
      let order = are_served.of_delivery z among ends in
      test_of_lt (start z) (length list) (omega (arith, order, ends)))
      ∙ sym (deliveries_first (length list) (omega arith)))

  -- ---- policies

  abbrev inside : List Pair
  inside = pairs_in model list

  abbrev keeps : Policy → Bool
  keeps policy = list_all (λ x. list_all (λ y. policy_allows policy list x y) inside) inside

  pub low_of : (x : Pair) → In inside x → In model.pairs x × (start x < length list)
  low_of x among =
      let r = of_filter (λ pair. holds list pair.pickup) model.pairs x among in
      (r.0, lt_of_test (start x) (length list) (sym (holds-place list x.pickup) ∙ r.1))

  inside_of : (x : Pair) → In model.pairs x → start x < length list → In inside x
  inside_of x among low = to_filter (λ pair. holds list pair.pickup) model.pairs x among (holds-place list x.pickup ∙ test_of_lt (start x) (length list) low)

  allowed : (policy : Policy) → IsTrue (keeps policy) → (x y : Pair) → In model.pairs x → In model.pairs y
      → start x < length list → start y < length list → IsTrue (policy_allows policy list x y)
  allowed policy kept x y among there low low_too =
      one_passes (λ y. policy_allows policy list x y) inside
      (one_passes (λ x. list_all (λ y. policy_allows policy list x y) inside) inside kept x (inside_of x among low)) y (inside_of y there low_too)

  all_allowed : (policy : Policy)
      → ((x y : Pair) → In model.pairs x → In model.pairs y → start x < length list → start y < length list → IsTrue (policy_allows policy list x y))
      → IsTrue (keeps policy)
  all_allowed policy each_two =
      all_pass (λ x. list_all (λ y. policy_allows policy list x y) inside) inside (λ x among. all_pass (λ y. policy_allows policy list x y) inside (λ y there.
      let a = low_of x among in let b = low_of y there in each_two x y a.0 b.0 a.1 b.1))

  pub turn_of : (policy : Policy) → IsTrue (takes_turns model policy list) → (x : Pair)
      → In model.pairs x → start x < length list → IsTrue (is_in_turn model policy list x)
  turn_of policy turns x among low = one_passes (is_in_turn model policy list) inside turns x (inside_of x among low)

  pub turns_of : (policy : Policy) → ((x : Pair) → In model.pairs x → start x < length list → IsTrue (is_in_turn model policy list x))
      → IsTrue (takes_turns model policy list)
  turns_of policy each_one = all_pass (is_in_turn model policy list) inside (λ x among. let a = low_of x among in each_one x a.0 a.1)

  abbrev early : ℕ → ℕ
  early k = count_by (λ z. nat_lt (start z) k) model.pairs

  abbrev late : ℕ → ℕ
  late k = count_by (λ z. nat_lt (end z) k) model.pairs

  first_turn : (x : Pair) → In model.pairs x → start x < length list → is_in_turn model Fifo list x ≡ (early (start x) == late (end x))
  first_turn x among low =
      let within = (are_served.of_pickup x among low).1 in
      ap₂ (λ a b. a == b) (pickups_first (start x) (omega (arith, low))) (deliveries_first (end x) (omega (arith, within)))

  last_turn : (x : Pair) → In model.pairs x → start x < length list
      → is_in_turn model Lifo list x ≡ ((early (start x + 1) + late (end x)) == (early (end x) + late (start x + 1)))
  last_turn x among low =
      let within = (are_served.of_pickup x among low).1 in
      ap₂ (λ a b. a == b)
      (ap₂ (λ a b. a + b) (pickups_first (start x + 1) (omega (arith, low))) (deliveries_first (end x) (omega (arith, within))))
      (ap₂ (λ a b. a + b) (pickups_first (end x) (omega (arith, within))) (deliveries_first (start x + 1) (omega (arith, low))))

  first_order : (p q d e : ℕ) → IsTrue (not (nat_lt p q) || nat_lt d e) → p < q → d < e
  first_order p q d e h order = Prim.grind (arith, nat_tests)

  order_first : (p q d e : ℕ) → (p < q → d < e) → IsTrue (not (nat_lt p q) || nat_lt d e)
  order_first p q d e h = elim (cases_lt p q) [
    | inl less ↦ (let l = h less in Prim.grind (arith, nat_tests))
    | inr not_less ↦ Prim.grind (arith, nat_tests)
  ]

  last_order : (p q d e : ℕ) → IsTrue (not (nat_lt p q && nat_lt q d) || nat_lt e d) → p < q → q < d → e < d
  last_order p q d e h order span = Prim.grind (arith, nat_tests)

  order_last : (p q d e : ℕ) → (p < q → q < d → e < d) → IsTrue (not (nat_lt p q && nat_lt q d) || nat_lt e d)
  order_last p q d e h = elim (cases_lt p q) [
    | inl less ↦ elim (cases_lt q d) [
      | inl within ↦ (let l = h less within in Prim.grind (arith, nat_tests))
      | inr not_within ↦ Prim.grind (arith, nat_tests)
    ]
    | inr not_less ↦ Prim.grind (arith, nat_tests)
  ]

  -- where the pairs come in turn, the first in is the first out
  pub first_out : IsTrue (takes_turns model Fifo list) → (x y : Pair) → In model.pairs x
      → In model.pairs y → start x < length list → start y < length list → start x < start y → end x < end y
  first_out turns = counts_first model.pairs start end (length list) are_served
      (λ z among low. eq_of_test (early (start z)) (late (end z)) (sym (first_turn z among low) ∙ turn_of Fifo turns z among low))

  first_same : keeps Fifo ≡ takes_turns model Fifo list
  first_same = same_tests (keeps Fifo) (takes_turns model Fifo list)
      (λ kept. turns_of Fifo (λ x among low. first_turn x among low ∙ test_of_eq (early (start x)) (late (end x))
      (first_counts model.pairs start end (length list) are_served
      (λ x y a b l m order. first_order (start x) (start y) (end x) (end y) (allowed Fifo kept x y a b l m) order) x among low)))
      (λ turns. all_allowed Fifo (λ x y a b l m. order_first (start x) (start y) (end x) (end y) (first_out turns x y a b l m)))

  last_same : keeps Lifo ≡ takes_turns model Lifo list
  last_same = same_tests (keeps Lifo) (takes_turns model Lifo list)
      (λ kept. turns_of Lifo (λ x among low. last_turn x among low ∙ test_of_eq (early (start x + 1) + late (end x)) (early (end x) + late (start x + 1))
      (last_counts model.pairs start end (length list) are_served
      (λ x y a b l m order span. last_order (start x) (start y) (end x) (end y) (allowed Lifo kept x y a b l m) order span) x among low)))
      (λ turns. all_allowed Lifo (λ x y a b l m. order_last (start x) (start y) (end x) (end y)
      (counts_last model.pairs start end (length list) are_served
      (λ z among low. eq_of_test (early (start z + 1) + late (end z)) (early (end z) + late (start z + 1))
      (sym (last_turn z among low) ∙ turn_of Lifo turns z among low)) x y a b l m)))

  pub turning : (policy : Policy) → keeps policy ≡ takes_turns model policy list
  turning Any =
      list_all-true (λ x. list_all (λ y. policy_allows Any list x y) inside) (λ x. list_all-true (λ y. policy_allows Any list x y) (λ y. refl) inside) inside
      ∙ sym (list_all-true (is_in_turn model Any list) (λ x. refl) inside)
  turning Lifo = last_same
  turning Fifo = first_same

pub turns_are_policies : TurnsArePolicies
turns_are_policies model v list well_formed distinct serves = turning model well_formed list distinct serves (vehicle_at model v).policy
