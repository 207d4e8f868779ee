-- A list with an item placed in it: its nodes, which are distinct visits.
use Rattle.std.proofs.Common.{◌≡◌, ◌∙◌, ◌<◌, ◌≤◌, ◌++◌, ℕ, List, [], ◌∷◌, Bool, true, false, not, refl, ap, ap₂, sym, length, take, drop, append_assoc}
use Rattle.std.specs.Prelude.{◌&&◌, ◌||◌, ◌==◌, slice_range}
use Rattle.std.specs.List.{list_all}
use Rattle.std.proofs.lemmas.Bool.{eq-eqb}
use Rattle.std.proofs.lemmas.List.{take-append-drop}
use Rattle.std.proofs.lemmas.List.Folds.{list_all-append, drop_split}
use Rattle.vr_model.specs.declared.records.Model.{Model}
use Rattle.vr_model.specs.tables.Tables.{is_visit}
use Rattle.vr_model.specs.routes.Routes.{route, holds, is_active, is_distinct}
use Rattle.vr_model.specs.deciding.Testing.{and_left, and_right}
use Rattle.vr_model.specs.first.Items.{first_node}
use Rattle.vr_rules.specs.Placing.{item_nodes, AreBuilt, IsItem}
use Rattle.vr_model.proofs.tables.Tests.{eq_turned, fails_not, or-false_left, or-false_right}
use Rattle.vr_rules.proofs.PlacingLemmas.{IsAdded, item-inactive, inactive-route, built-visits, built-distinct}
use Rattle.vr_rules.specs.declared.items.Item.{Item}
use Rattle.vr_first_insert.specs.declared.choice.Placing.{Placing}
use Rattle.vr_first_insert.specs.declared.choice.Placing.TheVariants.{One, Two}
use Rattle.vr_first_insert.specs.Placings.{item_in, placed, AreWithin, MayHold}

-- ---- one node more

swap-or : (a b c : Bool) → (a || (b || c)) ≡ (b || (a || c))
swap-or true true c = refl
swap-or true false c = refl
swap-or false b c = refl

one-holds : (xs zs : List ℕ) (n x : ℕ) → holds (xs ++ n ∷ zs) x ≡ ((x == n) || holds (xs ++ zs) x)
one-holds [] zs n x = refl
one-holds (y ∷ ys) zs n x = ap (λ b. (x == y) || b) (one-holds ys zs n x) ∙ swap-or (x == y) (x == n) (holds (ys ++ zs) x)

one-distinct : (xs zs : List ℕ) (n : ℕ) → is_distinct (xs ++ zs) ≡ true → holds (xs ++ zs) n ≡ false → is_distinct (xs ++ n ∷ zs) ≡ true
one-distinct [] zs n d absent = ap₂ (λ a b. not a && b) absent d
one-distinct (y ∷ ys) zs n d absent =
    let other : (y == n) ≡ false = eq_turned y n ∙ or-false_left (n == y) (holds (ys ++ zs) n) absent in
    let here : holds (ys ++ n ∷ zs) y ≡ false = one-holds ys zs n y
    ∙ ap₂ (λ a b. a || b) other (fails_not (holds (ys ++ zs) y) (and_left (not (holds (ys ++ zs) y)) (is_distinct (ys ++ zs)) d)) in
    ap₂ (λ a b. not a && b) here
    (one-distinct ys zs n (and_right (not (holds (ys ++ zs) y)) (is_distinct (ys ++ zs)) d) (or-false_right (n == y) (holds (ys ++ zs) n) absent))

swap-and : (a b c : Bool) → a ≡ true → (b && c) ≡ true → (b && (a && c)) ≡ true
swap-and a b c e h = ap (λ a. b && (a && c)) e ∙ h

one-all : (p : ℕ → Bool) (xs zs : List ℕ) (n : ℕ) → p n ≡ true → list_all p (xs ++ zs) ≡ true → list_all p (xs ++ n ∷ zs) ≡ true
one-all p xs zs n e h = list_all-append p xs (n ∷ zs) ∙ swap-and (p n) (list_all p xs) (list_all p zs) e (sym (list_all-append p xs zs) ∙ h)

-- ---- two nodes more

two-holds : (xs ms zs : List ℕ) (p d x : ℕ) → holds (xs ++ p ∷ (ms ++ d ∷ zs)) x ≡ ((x == p) || ((x == d) || holds (xs ++ (ms ++ zs)) x))
two-holds xs ms zs p d x =
    one-holds xs (ms ++ d ∷ zs) p x
    ∙ ap (λ b. (x == p) || b)
    (ap (λ l. holds l x) (sym (append_assoc xs ms (d ∷ zs))) ∙ one-holds (xs ++ ms) zs d x ∙ ap (λ l. (x == d) || holds l x) (append_assoc xs ms zs))

two-distinct : (xs ms zs : List ℕ) (p d : ℕ) → is_distinct (xs ++ (ms ++ zs)) ≡ true
    → holds (xs ++ (ms ++ zs)) p ≡ false → holds (xs ++ (ms ++ zs)) d ≡ false → (p == d) ≡ false
    → is_distinct (xs ++ p ∷ (ms ++ d ∷ zs)) ≡ true
two-distinct xs ms zs p d e no_p no_d other =
    let group : (xs ++ ms) ++ zs ≡ xs ++ (ms ++ zs) = append_assoc xs ms zs in
    let inner : is_distinct (xs ++ (ms ++ d ∷ zs)) ≡ true = ap is_distinct (sym (append_assoc xs ms (d ∷ zs)))
    ∙ one-distinct (xs ++ ms) zs d (ap is_distinct group ∙ e) (ap (λ l. holds l d) group ∙ no_d) in
    let absent : holds (xs ++ (ms ++ d ∷ zs)) p ≡ false = ap (λ l. holds l p) (sym (append_assoc xs ms (d ∷ zs)))
    ∙ one-holds (xs ++ ms) zs d p ∙ ap₂ (λ a b. a || b) other (ap (λ l. holds l p) group ∙ no_p) in
    one-distinct xs (ms ++ d ∷ zs) p inner absent

two-all : (q : ℕ → Bool) (xs ms zs : List ℕ) (p d : ℕ) → q p ≡ true → q d ≡ true
    → list_all q (xs ++ (ms ++ zs)) ≡ true → list_all q (xs ++ p ∷ (ms ++ d ∷ zs)) ≡ true
two-all q xs ms zs p d e f h =
    one-all q xs (ms ++ d ∷ zs) p e
    (ap (list_all q) (sym (append_assoc xs ms (d ∷ zs))) ∙ one-all q (xs ++ ms) zs d f (ap (list_all q) (append_assoc xs ms zs) ∙ h))

-- ---- an item placed

pub split-three : (list : List ℕ) (s t : ℕ) → s ≤ t → take s list ++ (slice_range list s t ++ drop t list) ≡ list
split-three list s t h = ap (λ rest. take s list ++ rest) (sym (drop_split list s t h)) ∙ take-append-drop s list

regroup : (a b c : Bool) → (a || (b || c)) ≡ ((a || (b || false)) || c)
regroup true b c = refl
regroup false true c = refl
regroup false false c = refl

regroup-one : (a c : Bool) → (a || c) ≡ ((a || false) || c)
regroup-one true c = refl
regroup-one false c = refl

pub placed-holds : (list : List ℕ) (placing : Placing) → AreWithin list placing → (x : ℕ)
    → holds (placed list placing) x ≡ (holds (item_nodes (item_in placing)) x || holds list x)
placed-holds list (One n t) within x =
    one-holds (take t list) (drop t list) n x ∙ ap (λ l. (x == n) || holds l x) (take-append-drop t list) ∙ regroup-one (x == n) (holds list x)
placed-holds list (Two p d s t) within x =
    two-holds (take s list) (slice_range list s t) (drop t list) p d x
    ∙ ap (λ l. (x == p) || ((x == d) || holds l x)) (split-three list s t within.0)
    ∙ regroup (x == p) (x == d) (holds list x)

first-there : (x : ℕ) (b : Bool) → ((x == x) || b) ≡ true
first-there x b = ap (λ a. a || b) (eq-eqb x x refl)

second-there : (x y : ℕ) → ((x == y) || ((x == x) || false)) ≡ true
second-there x y = ap (λ a. (x == y) || (a || false)) (eq-eqb x x refl) ∙ last (x == y)
  where
    last : (a : Bool) → (a || true) ≡ true
    last true = refl
    last false = refl

apart : (p d : ℕ) → is_distinct (p ∷ d ∷ []) ≡ true → (p == d) ≡ false
apart p d h = or-false_left (p == d) false (fails_not ((p == d) || false) (and_left (not ((p == d) || false)) true h))

pub placed-visits : (model : Model) (list : List ℕ) (placing : Placing) → AreWithin list placing
    → MayHold model list (item_in placing) → list_all (is_visit model) (placed list placing) ≡ true
placed-visits model list (One n t) within may =
    one-all (is_visit model) (take t list) (drop t list) n (and_left (is_visit model n) true may.nodes.visits)
    (ap (list_all (is_visit model)) (take-append-drop t list) ∙ may.visits)
placed-visits model list (Two p d s t) within may =
    two-all (is_visit model) (take s list) (slice_range list s t) (drop t list) p d
    (and_left (is_visit model p) _ may.nodes.visits) (and_left (is_visit model d) true (and_right (is_visit model p) _ may.nodes.visits))
    (ap (list_all (is_visit model)) (split-three list s t within.0) ∙ may.visits)

pub placed-distinct : (model : Model) (list : List ℕ) (placing : Placing) → AreWithin list placing
    → MayHold model list (item_in placing) → is_distinct (placed list placing) ≡ true
placed-distinct model list (One n t) within may =
    let whole = take-append-drop t list in
    one-distinct (take t list) (drop t list) n (ap is_distinct whole ∙ may.distinct) (ap (λ l. holds l n) whole ∙ may.absent n (first-there n false))
placed-distinct model list (Two p d s t) within may =
    let whole = split-three list s t within.0 in
    two-distinct (take s list) (slice_range list s t) (drop t list) p d (ap is_distinct whole ∙ may.distinct)
    (ap (λ l. holds l p) whole ∙ may.absent p (first-there p ((p == d) || false))) (ap (λ l. holds l d) whole ∙ may.absent d (second-there d p))
    (apart p d may.nodes.distinct)

-- an item that stands in no list may be put into each
pub MayHold-inactive : (model : Model) (lists : List (List ℕ)) (v : ℕ) (item : Item) → AreBuilt model lists
    → IsItem model item → is_active lists (first_node (item_nodes item)) ≡ false → MayHold model (route lists v) item
MayHold-inactive model lists v item built valid first = record {
  visits = built-visits model lists v built;
  distinct = built-distinct model lists v built;
  nodes = record { visits = valid.visits; distinct = valid.distinct };
  absent = λ node there. inactive-route lists node v (item-inactive model lists item valid built.are_open first node there);
}

-- the list with the item is one with nodes added
pub IsAdded-placed : (model : Model) (lists : List (List ℕ)) (v : ℕ) (placing : Placing) → AreBuilt model lists
    → v < length lists → IsItem model (item_in placing) → is_active lists (first_node (item_nodes (item_in placing))) ≡ false
    → AreWithin (route lists v) placing → IsAdded model lists v (item_nodes (item_in placing)) (placed (route lists v) placing)
IsAdded-placed model lists v placing built low valid first within =
    let may = MayHold-inactive model lists v (item_in placing) built valid first in
    record {
      vehicle = low;
      nodes_are = placed-holds (route lists v) placing within;
      visits = placed-visits model (route lists v) placing within may;
      distinct = placed-distinct model (route lists v) placing within may;
      inactive = item-inactive model lists (item_in placing) valid built.are_open first;
    }
