-- Walks along lists, from place k on.
use Rattle.std.proofs.Common.{◌≡◌, ℕ, zero, suc, ◌+◌, ◌-◌, ◌<◌, ◌≤◌, Bool, true, false, not, cond, ◌&&◌, ◌==◌, List, [], ◌∷◌, length, get_or, take, drop, map}
use Rattle.std.proofs.Common.{refl, sym, ap, ap₂, ◌∙◌, arith}
use Rattle.std.specs.Prelude.{filter, nat_lt, slice_index_or}
use Rattle.std.specs.List.{list_all}
use Rattle.std.proofs.lemmas.List.{drop_more, drop_all, take_all, length-drop}
use Rattle.std.proofs.lemmas.List.Folds.{list_all-map}
use Rattle.vr_model.specs.tables.Numbers.{from_to}
use Rattle.vr_model.proofs.tables.Ranges.{first_left}
use Rattle.vr_model.specs.routes.Routes.{holds, is_same}
use Rattle.vr_model.specs.moves.Moves.{comes_before}
use Rattle.vr_model.specs.routes.Rules.{place_of, policy_allows}
use Rattle.vr_model.specs.deciding.Testing.{and_right}
use Rattle.vr_model.specs.declared.records.Pair.{Pair}
use Rattle.vr_model.specs.declared.records.Policy.{Policy}
use Rattle.vr_model.specs.declared.records.Policy.TheVariants.{Any, Lifo, Fifo}
use Rattle.vr_check.specs.Terms.{places_of, are_pairs_in_order, is_in_order}

-- the rest of a list, as a slice is said
pub rest_of : (xs : List ℕ) (k : ℕ) → take (length xs - k) (drop k xs) ≡ drop k xs
rest_of xs k = take_all (length xs - k) (drop k xs) (omega (arith, length-drop k xs))

-- ---- a node before another

module _ (list : List ℕ) (k : ℕ) (low : k < length list) (first second : ℕ) where
  before_opened : comes_before (drop k list) first second
      ≡ cond (get_or list k 0 == first) (holds (drop (k + 1) list) second) (comes_before (drop (k + 1) list) first second)
  before_opened = ap (λ l. comes_before l first second) (drop_more list k 0 low)

  pub before_here : (get_or list k 0 == first) ≡ true → comes_before (drop k list) first second ≡ holds (drop (k + 1) list) second
  before_here h = before_opened ∙ ap (λ b. cond b (holds (drop (k + 1) list) second) (comes_before (drop (k + 1) list) first second)) h

  pub before_later : (get_or list k 0 == first) ≡ false → comes_before (drop k list) first second ≡ comes_before (drop (k + 1) list) first second
  before_later h = before_opened ∙ ap (λ b. cond b (holds (drop (k + 1) list) second) (comes_before (drop (k + 1) list) first second)) h

  -- ---- the place of a node
  place_opened : place_of (drop k list) first ≡ cond (not (get_or list k 0 == first)) (1 + place_of (drop (k + 1) list) first) 0
  place_opened = ap (λ l. place_of l first) (drop_more list k 0 low)

  pub place_here : (get_or list k 0 == first) ≡ true → place_of (drop k list) first ≡ 0
  place_here h = place_opened ∙ ap (λ b. cond (not b) (1 + place_of (drop (k + 1) list) first) 0) h

  pub place_later : (get_or list k 0 == first) ≡ false → place_of (drop k list) first ≡ 1 + place_of (drop (k + 1) list) first
  place_later h = place_opened ∙ ap (λ b. cond (not b) (1 + place_of (drop (k + 1) list) first) 0) h

pub before_end : (list : List ℕ) (k first second : ℕ) → length list ≤ k → comes_before (drop k list) first second ≡ false
before_end list k first second high = ap (λ l. comes_before l first second) (drop_all k list high)

pub place_end : (list : List ℕ) (k node : ℕ) → length list ≤ k → place_of (drop k list) node ≡ 0
place_end list k node high = ap (λ l. place_of l node) (drop_all k list high)

-- ---- numbers that pass a test

module _ (p : ℕ → Bool) (k n : ℕ) (low : k < n) where
  pub keeps : p k ≡ true → filter p (from_to k n) ≡ k ∷ filter p (from_to (k + 1) n)
  keeps h = first_left k n low (filter p) ∙ ap (λ b. cond b (k ∷ filter p (from_to (k + 1) n)) (filter p (from_to (k + 1) n))) h

  pub leaves_out : p k ≡ false → filter p (from_to k n) ≡ filter p (from_to (k + 1) n)
  leaves_out h = first_left k n low (filter p) ∙ ap (λ b. cond b (k ∷ filter p (from_to (k + 1) n)) (filter p (from_to (k + 1) n))) h

-- ---- a list beside another

less_more : (k n : ℕ) → nat_lt (suc k) (suc n) ≡ nat_lt k n
less_more k n = grind arith

some_less : (n : ℕ) → nat_lt 0 (suc n) ≡ true
some_less n = grind arith

none_same : (n : ℕ) → false ≡ (0 == suc n)
none_same n = grind arith

same_more : (k n : ℕ) → (k == n) ≡ (suc k == suc n)
same_more k n = grind arith

-- the next entry is this one
pub same_next : (xs rest : List ℕ) (k x : ℕ) → (nat_lt k (length xs) && (slice_index_or xs k 0 == x)) ≡ true
    → is_same (drop k xs) (x ∷ rest) ≡ is_same (drop (k + 1) xs) rest
same_next [] rest k x h = absurd (let f : false ≡ true → ⊥ = λ e. cc in f (none k x h))
  where
    none : (k x : ℕ) → (nat_lt k 0 && (slice_index_or [] k 0 == x)) ≡ true → false ≡ true
    none k x h = grind arith
same_next (y ∷ ys) rest zero x h = ap (λ b. b && is_same ys rest) (and_right (nat_lt 0 (length (y ∷ ys))) (y == x) h)
same_next (y ∷ ys) rest (suc k) x h =
    let e : suc k + 1 ≡ suc (k + 1) = omega arith in
    same_next ys rest k x (sym (ap (λ b. b && (slice_index_or ys k 0 == x)) (less_more k (length ys))) ∙ h) ∙ ap (λ n. is_same (drop n (y ∷ ys)) rest) (sym e)

-- the next entry is another one, or there is none
pub other_next : (xs rest : List ℕ) (k x : ℕ) → (nat_lt k (length xs) && (slice_index_or xs k 0 == x)) ≡ false → is_same (drop k xs) (x ∷ rest) ≡ false
other_next [] rest k x h = ap (λ ys. is_same ys (x ∷ rest)) (drop_all k [] (omega arith))
other_next (y ∷ ys) rest zero x h = ap (λ b. b && is_same ys rest) (sym (ap (λ b. b && (y == x)) (some_less (length ys))) ∙ h)
other_next (y ∷ ys) rest (suc k) x h = other_next ys rest k x (sym (ap (λ b. b && (slice_index_or ys k 0 == x)) (less_more k (length ys))) ∙ h)

-- no entry of the other list is left
pub same_end : (xs : List ℕ) (k : ℕ) → k ≤ length xs → is_same (drop k xs) [] ≡ (k == length xs)
same_end [] k within = let e : k ≡ 0 = omega (arith, within) in ap (λ k. is_same (drop k []) []) e ∙ ap (λ k. k == 0) (sym e)
same_end (x ∷ xs) zero within = none_same (length xs)
same_end (x ∷ xs) (suc k) within = same_end xs k (omega (arith, within)) ∙ same_more k (length xs)

-- ---- tests of all entries

list_all_same : {A : Type 0} (p q : A → Bool) → ((x : A) → p x ≡ q x) → (xs : List A) → list_all p xs ≡ list_all q xs
list_all_same p q h [] = refl
list_all_same p q h (x ∷ xs) = ap₂ (λ a b. a && b) (h x) (list_all_same p q h xs)

-- what a policy asks of two pairs is what it asks of their places
by_places : (policy : Policy) (list : List ℕ) (x y : Pair) → are_pairs_in_order policy (places_of list x) (places_of list y) ≡ policy_allows policy list x y
by_places Any list x y = refl
by_places Lifo list x y = refl
by_places Fifo list x y = refl

pub policy_by_places : (policy : Policy) (list : List ℕ) (pairs : List Pair)
    → list_all (is_in_order policy (map (places_of list) pairs)) (map (places_of list) pairs)
    ≡ list_all (λ x. list_all (λ y. policy_allows policy list x y) pairs) pairs
policy_by_places policy list pairs =
    list_all-map (is_in_order policy (map (places_of list) pairs)) (places_of list) pairs
    ∙ list_all_same (λ x. is_in_order policy (map (places_of list) pairs) (places_of list x)) (λ x. list_all (λ y. policy_allows policy list x y) pairs)
    (λ x. list_all-map (are_pairs_in_order policy (places_of list x)) (places_of list) pairs
    ∙ list_all_same (λ y. are_pairs_in_order policy (places_of list x) (places_of list y))
    (λ y. policy_allows policy list x y) (by_places policy list x) pairs) pairs
