-- A list with an item put into it: its nodes, which are distinct visits.
use Rattle.std.proofs.Common.{◌≡◌, ◌∙◌, ◌<◌, ◌≤◌, ◌++◌, ℕ, List, [], ◌∷◌, Bool, true, false, not, refl, ap, ap₂, sym, length, map, take, drop, append_assoc}
use Rattle.std.specs.Prelude.{suc, ◌&&◌, ◌||◌, ◌==◌, slice_range}
use Rattle.std.specs.List.{list_all}
use Rattle.std.proofs.lemmas.Bool.{eq-eqb}
use Rattle.std.proofs.lemmas.List.{take-append-drop}
use Rattle.std.proofs.lemmas.List.Folds.{list_all-append, drop_split}
use Rattle.vr_model.specs.declared.records.Model.{Model}
use Rattle.vr_model.specs.tables.Numbers.{from_to}
use Rattle.vr_model.specs.tables.Tables.{is_visit}
use Rattle.vr_model.specs.routes.Routes.{route, holds, is_active, is_distinct}
use Rattle.vr_model.specs.moves.Moves.{gaps}
use Rattle.vr_model.specs.deciding.Testing.{and_left, and_right}
use Rattle.vr_model.specs.first.Items.{first_node}
use Rattle.vr_model.specs.first.CheapestInsertion.{inserted_in, places_for}
use Rattle.vr_model.proofs.tables.Tests.{eq_turned, fails_not, or-false_left, or-false_right}
use Rattle.vr_model.proofs.tables.Members.{In, from_each, from_map, of_from_to}
use Rattle.vr_rules.specs.declared.items.Item.{Item}
use Rattle.vr_rules.specs.declared.items.Item.TheVariants.{Visit, PickupAndDelivery}
use Rattle.vr_rules.specs.Placing.{item_nodes, AreBuilt, IsItem}
use Rattle.vr_rules.proofs.PlacingLemmas.{IsAdded, item-inactive, inactive-route, built-visits, built-distinct}

-- ---- one node more

swap-or : (a b c : Bool) → (a || (b || c)) ≡ (b || (a || c))
swap-or true true c = refl
swap-or true false c = refl
swap-or false b c = refl

one-holds : (xs zs : List ℕ) (n x : ℕ) → holds (xs ++ n ∷ zs) x ≡ ((x == n) || holds (xs ++ zs) x)
one-holds [] zs n x = refl
one-holds (y ∷ ys) zs n x = ap (λ b. (x == y) || b) (one-holds ys zs n x) ∙ swap-or (x == y) (x == n) (holds (ys ++ zs) x)

one-distinct : (xs zs : List ℕ) (n : ℕ) → is_distinct (xs ++ zs) ≡ true → holds (xs ++ zs) n ≡ false → is_distinct (xs ++ n ∷ zs) ≡ true
one-distinct [] zs n d absent = ap₂ (λ a b. not a && b) absent d
one-distinct (y ∷ ys) zs n d absent =
    let other : (y == n) ≡ false = eq_turned y n ∙ or-false_left (n == y) (holds (ys ++ zs) n) absent in
    let here : holds (ys ++ n ∷ zs) y ≡ false = one-holds ys zs n y
    ∙ ap₂ (λ a b. a || b) other (fails_not (holds (ys ++ zs) y) (and_left (not (holds (ys ++ zs) y)) (is_distinct (ys ++ zs)) d)) in
    ap₂ (λ a b. not a && b) here
    (one-distinct ys zs n (and_right (not (holds (ys ++ zs) y)) (is_distinct (ys ++ zs)) d) (or-false_right (n == y) (holds (ys ++ zs) n) absent))

swap-and : (a b c : Bool) → a ≡ true → (b && c) ≡ true → (b && (a && c)) ≡ true
swap-and a b c e h = ap (λ a. b && (a && c)) e ∙ h

one-all : (p : ℕ → Bool) (xs zs : List ℕ) (n : ℕ) → p n ≡ true → list_all p (xs ++ zs) ≡ true → list_all p (xs ++ n ∷ zs) ≡ true
one-all p xs zs n e h = list_all-append p xs (n ∷ zs) ∙ swap-and (p n) (list_all p xs) (list_all p zs) e (sym (list_all-append p xs zs) ∙ h)

-- ---- two nodes more

two-holds : (xs ms zs : List ℕ) (p d x : ℕ) → holds (xs ++ p ∷ (ms ++ d ∷ zs)) x ≡ ((x == p) || ((x == d) || holds (xs ++ (ms ++ zs)) x))
two-holds xs ms zs p d x =
    one-holds xs (ms ++ d ∷ zs) p x
    ∙ ap (λ b. (x == p) || b)
    (ap (λ l. holds l x) (sym (append_assoc xs ms (d ∷ zs))) ∙ one-holds (xs ++ ms) zs d x ∙ ap (λ l. (x == d) || holds l x) (append_assoc xs ms zs))

two-distinct : (xs ms zs : List ℕ) (p d : ℕ) → is_distinct (xs ++ (ms ++ zs)) ≡ true
    → holds (xs ++ (ms ++ zs)) p ≡ false → holds (xs ++ (ms ++ zs)) d ≡ false → (p == d) ≡ false
    → is_distinct (xs ++ p ∷ (ms ++ d ∷ zs)) ≡ true
two-distinct xs ms zs p d e no_p no_d other =
    let group : (xs ++ ms) ++ zs ≡ xs ++ (ms ++ zs) = append_assoc xs ms zs in
    let inner : is_distinct (xs ++ (ms ++ d ∷ zs)) ≡ true = ap is_distinct (sym (append_assoc xs ms (d ∷ zs)))
    ∙ one-distinct (xs ++ ms) zs d (ap is_distinct group ∙ e) (ap (λ l. holds l d) group ∙ no_d) in
    let absent : holds (xs ++ (ms ++ d ∷ zs)) p ≡ false = ap (λ l. holds l p) (sym (append_assoc xs ms (d ∷ zs)))
    ∙ one-holds (xs ++ ms) zs d p ∙ ap₂ (λ a b. a || b) other (ap (λ l. holds l p) group ∙ no_p) in
    one-distinct xs (ms ++ d ∷ zs) p inner absent

two-all : (q : ℕ → Bool) (xs ms zs : List ℕ) (p d : ℕ) → q p ≡ true → q d ≡ true
    → list_all q (xs ++ (ms ++ zs)) ≡ true → list_all q (xs ++ p ∷ (ms ++ d ∷ zs)) ≡ true
two-all q xs ms zs p d e f h =
    one-all q xs (ms ++ d ∷ zs) p e
    (ap (list_all q) (sym (append_assoc xs ms (d ∷ zs))) ∙ one-all q (xs ++ ms) zs d f (ap (list_all q) (append_assoc xs ms zs) ∙ h))

pub split-three : (list : List ℕ) (s t : ℕ) → s ≤ t → take s list ++ (slice_range list s t ++ drop t list) ≡ list
split-three list s t h = ap (λ rest. take s list ++ rest) (sym (drop_split list s t h)) ∙ take-append-drop s list

-- ---- an item put into a list

-- the places of an item in a list: one of a visit, two of a pair, in order
abbrev pub AreIn : Item → List ℕ → Type 0
AreIn (Visit n) places = (t : ℕ) × (places ≡ t ∷ [])
AreIn (PickupAndDelivery p d) places = (s : ℕ) × (t : ℕ) × (s ≤ t) × (places ≡ s ∷ t ∷ [])

pub places_in : (item : Item) (list places : List ℕ) → In (places_for (item_nodes item) list) places → AreIn item places
places_in (Visit n) list places among = from_map (λ t. t ∷ []) (gaps list) places among (λ t there same. (t, same))
places_in (PickupAndDelivery p d) list places among =
    from_each (λ s. map (λ t. s ∷ t ∷ []) (from_to s (suc (length list)))) (gaps list) places among (λ s there at.
    from_map (λ t. s ∷ t ∷ []) (from_to s (suc (length list))) places at (λ t within same. (s, t, (of_from_to s (suc (length list)) t within).0, same)))

regroup : (a b c : Bool) → (a || (b || c)) ≡ ((a || (b || false)) || c)
regroup true b c = refl
regroup false true c = refl
regroup false false c = refl

regroup-one : (a c : Bool) → (a || c) ≡ ((a || false) || c)
regroup-one true c = refl
regroup-one false c = refl

placed-holds : (item : Item) (list places : List ℕ) → AreIn item places → (x : ℕ)
    → holds (inserted_in list (item_nodes item) places) x ≡ (holds (item_nodes item) x || holds list x)
placed-holds (Visit n) list places (t, same) x =
    ap (λ ps. holds (inserted_in list (n ∷ []) ps) x) same ∙ one-holds (take t list) (drop t list) n x
    ∙ ap (λ l. (x == n) || holds l x) (take-append-drop t list) ∙ regroup-one (x == n) (holds list x)
placed-holds (PickupAndDelivery p d) list places (s, t, low, same) x =
    ap (λ ps. holds (inserted_in list (p ∷ d ∷ []) ps) x) same ∙ two-holds (take s list) (slice_range list s t) (drop t list) p d x
    ∙ ap (λ l. (x == p) || ((x == d) || holds l x)) (split-three list s t low)
    ∙ regroup (x == p) (x == d) (holds list x)

first-there : (x : ℕ) (b : Bool) → ((x == x) || b) ≡ true
first-there x b = ap (λ a. a || b) (eq-eqb x x refl)

second-there : (x y : ℕ) → ((x == y) || ((x == x) || false)) ≡ true
second-there x y = ap (λ a. (x == y) || (a || false)) (eq-eqb x x refl) ∙ last (x == y)
  where
    last : (a : Bool) → (a || true) ≡ true
    last true = refl
    last false = refl

apart : (p d : ℕ) → is_distinct (p ∷ d ∷ []) ≡ true → (p == d) ≡ false
apart p d h = or-false_left (p == d) false (fails_not ((p == d) || false) (and_left (not ((p == d) || false)) true h))

pub placed-visits : (model : Model) (item : Item) (list places : List ℕ) → AreIn item places → list_all (is_visit model) (item_nodes item) ≡ true
    → list_all (is_visit model) list ≡ true → list_all (is_visit model) (inserted_in list (item_nodes item) places) ≡ true
placed-visits model (Visit n) list places (t, same) is all =
    ap (λ ps. list_all (is_visit model) (inserted_in list (n ∷ []) ps)) same
    ∙ one-all (is_visit model) (take t list) (drop t list) n (and_left (is_visit model n) true is)
    (ap (list_all (is_visit model)) (take-append-drop t list) ∙ all)
placed-visits model (PickupAndDelivery p d) list places (s, t, low, same) is all =
    ap (λ ps. list_all (is_visit model) (inserted_in list (p ∷ d ∷ []) ps)) same
    ∙ two-all (is_visit model) (take s list) (slice_range list s t) (drop t list) p d
    (and_left (is_visit model p) _ is) (and_left (is_visit model d) true (and_right (is_visit model p) _ is))
    (ap (list_all (is_visit model)) (split-three list s t low) ∙ all)

pub placed-distinct : (item : Item) (list places : List ℕ) → AreIn item places → is_distinct (item_nodes item) ≡ true
    → is_distinct list ≡ true → ((x : ℕ) → holds (item_nodes item) x ≡ true → holds list x ≡ false)
    → is_distinct (inserted_in list (item_nodes item) places) ≡ true
placed-distinct (Visit n) list places (t, same) is d absent =
    let whole = take-append-drop t list in
    ap (λ ps. is_distinct (inserted_in list (n ∷ []) ps)) same
    ∙ one-distinct (take t list) (drop t list) n (ap is_distinct whole ∙ d) (ap (λ l. holds l n) whole ∙ absent n (first-there n false))
placed-distinct (PickupAndDelivery p d) list places (s, t, low, same) is e absent =
    let whole = split-three list s t low in
    ap (λ ps. is_distinct (inserted_in list (p ∷ d ∷ []) ps)) same
    ∙ two-distinct (take s list) (slice_range list s t) (drop t list) p d (ap is_distinct whole ∙ e)
    (ap (λ l. holds l p) whole ∙ absent p (first-there p ((p == d) || false))) (ap (λ l. holds l d) whole ∙ absent d (second-there d p)) (apart p d is)

-- the list with an item that stood in no list is one with nodes added
pub item_added : (model : Model) (lists : List (List ℕ)) (v : ℕ) (item : Item) (places : List ℕ)
    → AreBuilt model lists → v < length lists → IsItem model item → is_active lists (first_node (item_nodes item)) ≡ false
    → AreIn item places → IsAdded model lists v (item_nodes item) (inserted_in (route lists v) (item_nodes item) places)
item_added model lists v item places built low is first at =
    let inactive = item-inactive model lists item is built.are_open first in
    record {
      vehicle = low;
      nodes_are = placed-holds item (route lists v) places at;
      visits = placed-visits model item (route lists v) places at is.visits (built-visits model lists v built);
      distinct = placed-distinct item (route lists v) places at is.distinct
          (built-distinct model lists v built) (λ x there. inactive-route lists x v (inactive x there));
      inactive = inactive;
    }
