-- Lists to which items are added, and the marks of their nodes.
use Rattle.std.proofs.Common.{◌≡◌, ◌∙◌, ◌<◌, ◌++◌, ℕ, zero, suc, List, [], ◌∷◌, Bool, true, false, cond, not, refl, ap, ap₂, sym, subst, arith, length, get_or}
use Rattle.std.specs.Prelude.{◌+◌, ◌&&◌, ◌||◌, ◌==◌, filter, count_by, nat_le, nat_lt, slice_index_or, replicate, All}
use Rattle.std.specs.List.{list_all, concat}
use Rattle.std.proofs.lemmas.Bool.{eqb-true, eq-eqb}
use Rattle.std.proofs.lemmas.Bool.Decides.{nat_tests}
use Rattle.std.proofs.lemmas.List.{get_or_append_left, length-append, length-set, length-replicate}
use Rattle.std.proofs.Math.Seq.{get_or-append_seam}
use Rattle.std.proofs.lemmas.List.Sums.{length-filter}
use Rattle.std.proofs.lemmas.List.Folds.{list_all-append, list_any-append}
use Rattle.vr_model.specs.declared.records.Model.{Model}
use Rattle.vr_model.specs.declared.records.Group.{Group}
use Rattle.vr_model.specs.declared.records.Pair.{Pair}
use Rattle.vr_model.specs.tables.Tables.{is_visit}
use Rattle.vr_model.specs.routes.Routes.{route, holds, is_active, is_distinct, vehicles}
use Rattle.vr_model.specs.moves.Moves.{with_route, comes_before}
use Rattle.vr_model.specs.routes.Rules.{is_open, is_route_open, serves_pair, fits_group}
use Rattle.vr_model.specs.first.Items.{first_node, empty_lists}
use Rattle.vr_model.specs.deciding.Testing.{and_left, and_right, and_both, list_all_range, range_list_all}
use Rattle.vr_model.proofs.tables.Tests.{clash, fails}
use Rattle.vr_model.specs.tables.WellFormed.{IsWellFormed}
use Rattle.vr_rules.specs.declared.items.Item.{Item}
use Rattle.vr_rules.specs.declared.items.Item.TheVariants.{Visit, PickupAndDelivery}
use Rattle.vr_rules.specs.Placing.{item_nodes, fits_beside, has_room, is_taken, AreBuilt, AreMarks, IsItem}
use Rattle.vr_model.proofs.tables.Tests.{fails_not, or-false_left, or-false_right, all-from_list_all}
use Rattle.vr_model.proofs.routes.Lists.{visit_below, is_active-concat, is_active-none, route-none, are_lists-count, is_distinct-left, is_distinct-right}
use Rattle.vr_model.proofs.routes.Lists.{list_all-route, is_distinct-route}
use Rattle.vr_rules.proofs.LocalOpenness.{is_active-added}

-- ---- tests that agree on the entries of a list

pub list_all-within : {A : Type 0} (p q : A → Bool) (xs : List A) → All (λ x. p x ≡ q x) xs → list_all p xs ≡ list_all q xs
list_all-within p q [] h = refl
list_all-within p q (x ∷ xs) h = ap₂ (λ a b. a && b) (h 0 x (omega arith)) (list_all-within p q xs (λ k d low. h (suc k) d (omega (arith, low))))

filter-within : {A : Type 0} (p q : A → Bool) (xs : List A) → All (λ x. p x ≡ q x) xs → filter p xs ≡ filter q xs
filter-within p q [] h = refl
filter-within p q (x ∷ xs) h = ap₂ (λ b ys. cond b (x ∷ ys) ys) (h 0 x (omega arith)) (filter-within p q xs (λ k d low. h (suc k) d (omega (arith, low))))

pub count_by-within : {A : Type 0} (p q : A → Bool) (xs : List A) → All (λ x. p x ≡ q x) xs → count_by p xs ≡ count_by q xs
count_by-within p q xs h = sym (length-filter p xs) ∙ ap length (filter-within p q xs h) ∙ length-filter q xs

-- ---- rooms of groups, by marks

pub fits_beside-marks : (model : Model) → IsWellFormed model → (lists : List (List ℕ)) (marks : List Bool) (item : Item) → AreMarks model.nodes lists marks
    → list_all (has_room marks item) model.groups ≡ fits_beside model lists (item_nodes item)
fits_beside-marks model well_formed lists marks item are =
    list_all-within (has_room marks item) (fits_group (item_nodes item ∷ lists)) model.groups (λ g d low.
    let group = get_or model.groups g d in
    ap (λ n. nat_le n group.max) (count_by-within (is_taken marks item) (is_active (item_nodes item ∷ lists)) group.nodes (λ k node node_low.
    ap (λ b. holds (item_nodes item) (get_or group.nodes k node) || b)
    (are.each (get_or group.nodes k node) false
    (visit_below model (get_or group.nodes k node) ((well_formed.each_group g d low).each_node_is_visit k node node_low))))))

-- the marks of the nodes of a list that was changed
pub AreMarks-added : (model : Model) (lists : List (List ℕ)) (v : ℕ) (list nodes : List ℕ) (marks marked : List Bool)
    → AreMarks model.nodes lists marks → v < length lists
    → ((node : ℕ) → holds list node ≡ (holds nodes node || holds (route lists v) node))
    → length marked ≡ length marks
    → ((node : ℕ) (d : Bool) → node < length marks → slice_index_or marked node d ≡ (holds nodes node || slice_index_or marks node d))
    → AreMarks model.nodes (with_route lists v list) marked
AreMarks-added model lists v list nodes marks marked are low added count each = record {
  one_of_each = count ∙ are.one_of_each;
  each = λ node d node_low.
      each node d (omega (arith, node_low, are.one_of_each)) ∙ ap (λ b. holds nodes node || b) (are.each node d node_low)
      ∙ sym (is_active-added lists v list nodes node low (added node));
}

-- ---- inactive nodes

pub inactive-route : (lists : List (List ℕ)) (x v : ℕ) → is_active lists x ≡ false → holds (route lists v) x ≡ false
inactive-route [] x v h = refl
inactive-route (list ∷ lists) x zero h = or-false_left (holds list x) (is_active lists x) h
inactive-route (list ∷ lists) x (suc v) h = inactive-route lists x v (or-false_right (holds list x) (is_active lists x) h)

inactive-everywhere : (lists : List (List ℕ)) (x : ℕ) → ((v : ℕ) → v < length lists → holds (route lists v) x ≡ false) → is_active lists x ≡ false
inactive-everywhere [] x h = refl
inactive-everywhere (list ∷ lists) x h = ap₂ (λ a b. a || b) (h 0 (omega arith)) (inactive-everywhere lists x (λ v low. h (suc v) (omega (arith, low))))

comes_before-absent : (list : List ℕ) (x y : ℕ) → holds list x ≡ false → comes_before list x y ≡ false
comes_before-absent [] x y h = refl
comes_before-absent (z ∷ zs) x y h =
    let other : (z == x) ≡ false = swapped z x (or-false_left (x == z) (holds zs x) h) in
    ap (λ b. cond b (holds zs y) (comes_before zs x y)) other ∙ comes_before-absent zs x y (or-false_right (x == z) (holds zs x) h)
  where
    swapped : (z x : ℕ) → (x == z) ≡ false → (z == x) ≡ false
    swapped z x e = grind (arith, nat_tests)

serves-none : (a b c : Bool) → (not (a || b) || c) ≡ true → a ≡ false → c ≡ false → b ≡ false
serves-none false false c h e f = refl
serves-none false true c h e f = absurd (clash c h f)
serves-none true b c h e f = absurd (clash true refl e)

-- a list that is open without the pickup has no delivery
delivery-absent : (model : Model) (v : ℕ) (list : List ℕ) (k : ℕ) (pair : Pair) → k < length model.pairs → ((d : Pair) → get_or model.pairs k d ≡ pair)
    → is_route_open model v list ≡ true → holds list pair.pickup ≡ false → holds list pair.delivery ≡ false
delivery-absent model v [] k pair low is passes absent = refl
delivery-absent model v (x ∷ xs) k pair low is passes absent =
    let list : List ℕ = x ∷ xs in
    let all = and_left (list_all (serves_pair list) model.pairs) _ (and_right _ _ passes) in
    let served : serves_pair list pair ≡ true = subst (λ p. serves_pair list p ≡ true)
    (is pair) (all-from_list_all (serves_pair list) model.pairs all k pair low) in
    serves-none (holds list pair.pickup) (holds list pair.delivery) (comes_before list pair.pickup pair.delivery)
    served absent (comes_before-absent list pair.pickup pair.delivery absent)

pub open-route : (model : Model) (lists : List (List ℕ)) (v : ℕ) → is_open model lists ≡ true → v < length lists → is_route_open model v (route lists v) ≡ true
unfolding is_open
open-route model lists v h low =
    list_all_range (λ v. is_route_open model v (route lists v)) 0 (length lists) (and_left _ _ h) v (omega arith) (omega (arith, low))

-- where the first node of an item is inactive, all its nodes are
pub item-inactive : (model : Model) (lists : List (List ℕ)) (item : Item) → IsItem model item
    → is_open model lists ≡ true → is_active lists (first_node (item_nodes item)) ≡ false
    → (node : ℕ) → holds (item_nodes item) node ≡ true → is_active lists node ≡ false
item-inactive model lists (Visit n) valid h first node there =
    subst (λ m. is_active lists m ≡ false) (sym (eqb-true node n (either (node == n) there))) first
  where
    either : (a : Bool) → (a || false) ≡ true → a ≡ true
    either true e = refl
    either false e = e
item-inactive model lists (PickupAndDelivery p d) valid h first node there = by (node == p) refl
  where
    pair : Pair
    pair = record { pickup = p; delivery = d }

    second : is_active lists d ≡ false
    second = inactive-everywhere lists d
        (λ v low. delivery-absent model v (route lists v) valid.of_pairs.0 pair valid.of_pairs.1
        valid.of_pairs.2 (open-route model lists v h low) (inactive-route lists p v first))

    last : (a b : Bool) → a ≡ false → (a || (b || false)) ≡ true → b ≡ true
    last a true e f = refl
    last true false e f = absurd (clash true refl e)
    last false false e f = f

    by : (b : Bool) → (node == p) ≡ b → is_active lists node ≡ false
    by true e = subst (λ m. is_active lists m ≡ false) (sym (eqb-true node p e)) first
    by false e = subst (λ m. is_active lists m ≡ false) (sym (eqb-true node d (last (node == p) (node == d) e there))) second

-- ---- distinct nodes

pub is_distinct-both : (xs ys : List ℕ) → is_distinct xs ≡ true → is_distinct ys ≡ true
    → ((x : ℕ) → holds xs x ≡ true → holds ys x ≡ false) → is_distinct (xs ++ ys) ≡ true
is_distinct-both [] ys d e apart = e
is_distinct-both (x ∷ xs) ys d e apart =
    let here : holds (xs ++ ys) x ≡ false =
    list_any-append (λ y. x == y) xs ys ∙ ap₂ (λ a b. a || b) (fails_not (holds xs x) (and_left (not (holds xs x)) (is_distinct xs) d))
    (apart x (ap (λ b. b || holds xs x) (eq-eqb x x refl))) in
    ap₂ (λ a b. not a && b) here
    (is_distinct-both xs ys (and_right (not (holds xs x)) (is_distinct xs) d) e (λ y h. apart y (or_second (y == x) (holds xs y) h)))
  where
    or_second : (a b : Bool) → b ≡ true → (a || b) ≡ true
    or_second true b h = refl
    or_second false b h = h

pub is_distinct-apart : (xs ys : List ℕ) → is_distinct (xs ++ ys) ≡ true → (x : ℕ) → holds xs x ≡ true → holds ys x ≡ false
is_distinct-apart [] ys d x h = absurd (clash false h refl)
is_distinct-apart (y ∷ xs) ys d x h =
    by (x == y) refl (λ later. is_distinct-apart xs ys (and_right (not (holds (xs ++ ys) y)) (is_distinct (xs ++ ys)) d) x later)
  where
    nowhere : holds (xs ++ ys) y ≡ false
    nowhere = fails_not (holds (xs ++ ys) y) (and_left (not (holds (xs ++ ys) y)) (is_distinct (xs ++ ys)) d)

    second : (a b : Bool) → a ≡ false → (a || b) ≡ true → b ≡ true
    second a true e f = refl
    second true false e f = absurd (clash true refl e)
    second false false e f = f

    by : (b : Bool) → (x == y) ≡ b → (holds xs x ≡ true → holds ys x ≡ false) → holds ys x ≡ false
    by true e later =
        subst (λ z. holds ys z ≡ false) (sym (eqb-true x y e)) (or-false_right (holds xs y) (holds ys y) (sym (list_any-append (λ z. y == z) xs ys) ∙ nowhere))
    by false e later = later (second (x == y) (holds xs x) e h)

-- ---- lists with nodes added to one of them

-- a list with these nodes beside those that it had
pub record IsAdded (model : Model) (lists : List (List ℕ)) (v : ℕ) (nodes list : List ℕ) : Type 0 where
  pub vehicle : v < length lists
  pub nodes_are : (node : ℕ) → holds list node ≡ (holds nodes node || holds (route lists v) node)
  pub visits : list_all (is_visit model) list ≡ true
  pub distinct : is_distinct list ≡ true
  pub inactive : (node : ℕ) → holds nodes node ≡ true → is_active lists node ≡ false

visits-added : (p : ℕ → Bool) (lists : List (List ℕ)) (v : ℕ) (list : List ℕ) → list_all p (concat lists) ≡ true
    → list_all p list ≡ true → list_all p (concat (with_route lists v list)) ≡ true
visits-added p [] v list h g = h
visits-added p (l ∷ ls) zero list h g = list_all-append p list (concat ls)
    ∙ ap₂ (λ a b. a && b) g (and_right (list_all p l) (list_all p (concat ls)) (sym (list_all-append p l (concat ls)) ∙ h))
visits-added p (l ∷ ls) (suc v) list h g =
    let both = sym (list_all-append p l (concat ls)) ∙ h in
    list_all-append p l (concat (with_route ls v list))
    ∙ ap₂ (λ a b. a && b) (and_left (list_all p l) (list_all p (concat ls)) both)
    (visits-added p ls v list (and_right (list_all p l) (list_all p (concat ls)) both) g)

distinct-added : (lists : List (List ℕ)) (v : ℕ) (nodes list : List ℕ) → v < length lists → is_distinct (concat lists) ≡ true → is_distinct list ≡ true
    → ((node : ℕ) → holds list node ≡ (holds nodes node || holds (route lists v) node)) → ((node : ℕ) → holds nodes node ≡ true → is_active lists node ≡ false)
    → is_distinct (concat (with_route lists v list)) ≡ true
distinct-added [] v nodes list low d e added inactive = absurd (omega (arith, low))
distinct-added (l ∷ ls) zero nodes list low d e added inactive =
    is_distinct-both list (concat ls) e (is_distinct-right l (concat ls) d) (λ x h. by (holds nodes x) x refl (sym (added x) ∙ h))
  where
    by : (b : Bool) (x : ℕ) → holds nodes x ≡ b → (holds nodes x || holds l x) ≡ true → holds (concat ls) x ≡ false
    by true x f h = sym (is_active-concat ls x) ∙ or-false_right (holds l x) (is_active ls x) (inactive x f)
    by false x f h = is_distinct-apart l (concat ls) d x (sym (ap (λ b. b || holds l x) f) ∙ h)
distinct-added (l ∷ ls) (suc v) nodes list low d e added inactive =
    is_distinct-both l (concat (with_route ls v list)) (is_distinct-left l (concat ls) d)
    (distinct-added ls v nodes list (omega (arith, low)) (is_distinct-right l (concat ls) d)
    e added (λ node h. or-false_right (holds l node) (is_active ls node) (inactive node h)))
    (λ x h. sym (is_active-concat (with_route ls v list) x) ∙ is_active-added ls v list nodes x (omega (arith, low)) (added x)
    ∙ ap₂ (λ a b. a || b) (fails (holds nodes x) (λ there. clash (holds l x) h (or-false_left (holds l x) (is_active ls x) (inactive x there))))
    (is_active-concat ls x ∙ is_distinct-apart l (concat ls) d x h))

-- the lists stay lists of the model
pub AreBuilt-added : (model : Model) (lists : List (List ℕ)) (v : ℕ) (nodes list : List ℕ)
    → AreBuilt model lists → IsAdded model lists v nodes list → is_open model (with_route lists v list) ≡ true
    → AreBuilt model (with_route lists v list)
AreBuilt-added model lists v nodes list built added passes =
    let parts = and_right (length lists == length model.vehicles) _ built.are_lists in
    let count : length (with_route lists v list) ≡ length model.vehicles = length-set lists v list ∙ are_lists-count model lists built.are_lists in
    record {
      are_lists =
          and_both (length (with_route lists v list) == length model.vehicles) _ (eq-eqb (length (with_route lists v list)) (length model.vehicles) count)
          (and_both (list_all (is_visit model) (concat (with_route lists v list))) _
          (visits-added (is_visit model) lists v list (and_left (list_all (is_visit model) (concat lists)) _ parts) added.visits)
          (distinct-added lists v nodes list added.vehicle (and_right (list_all (is_visit model) (concat lists)) _ parts)
          added.distinct added.nodes_are added.inactive));
      are_open = passes;
    }

-- ---- the beginning

pub concat-none : (n : ℕ) → concat (replicate {A = List ℕ} n []) ≡ []
concat-none zero = refl
concat-none (suc n) = concat-none n

filter-none : (xs : List ℕ) (p : ℕ → Bool) → ((x : ℕ) → p x ≡ false) → filter p xs ≡ []
filter-none [] p h = refl
filter-none (x ∷ xs) p h = ap₂ (λ b ys. cond b (x ∷ ys) ys) (h x) (filter-none xs p h)

within-none : (count max : ℕ) → count ≡ 0 → nat_le count max ≡ true
within-none count max e = grind (arith, nat_tests)

pub AreBuilt-empty : (model : Model) → AreBuilt model (empty_lists model)
unfolding is_open
AreBuilt-empty model =
    let n = length model.vehicles in
    record {
      are_lists = and_both (length (empty_lists model) == n) _ (eq-eqb (length (empty_lists model)) n (length-replicate {A = List ℕ} n []))
          (ap (λ xs. list_all (is_visit model) xs && is_distinct xs) (concat-none n));
      are_open = and_both (list_all (λ v. is_route_open model v (route (empty_lists model) v)) (vehicles (empty_lists model))) _
          (range_list_all (λ v. is_route_open model v (route (empty_lists model) v)) 0
          (length (empty_lists model)) (λ v start end. ap (is_route_open model v) (route-none n v)))
          (every model.groups);
    }
  where
    every : (groups : List Group) → list_all (fits_group (empty_lists model)) groups ≡ true
    every [] = refl
    every (g ∷ gs) = and_both (fits_group (empty_lists model) g) _
        (within-none (count_by (is_active (empty_lists model)) g.nodes)
        g.max (sym (length-filter (is_active (empty_lists model)) g.nodes)
        ∙ ap length (filter-none g.nodes (is_active (empty_lists model)) (is_active-none (length model.vehicles))))) (every gs)

-- the lists of lists of a model have distinct visits
pub built-visits : (model : Model) (lists : List (List ℕ)) (v : ℕ) → AreBuilt model lists → list_all (is_visit model) (route lists v) ≡ true
built-visits model lists v built = list_all-route (is_visit model) lists v
    (and_left (list_all (is_visit model) (concat lists)) _ (and_right (length lists == length model.vehicles) _ built.are_lists))

pub built-distinct : (model : Model) (lists : List (List ℕ)) (v : ℕ) → AreBuilt model lists → is_distinct (route lists v) ≡ true
built-distinct model lists v built =
    is_distinct-route lists v (and_right (list_all (is_visit model) (concat lists)) _ (and_right (length lists == length model.vehicles) _ built.are_lists))

pub built-count : (model : Model) (lists : List (List ℕ)) → AreBuilt model lists → length lists ≡ length model.vehicles
built-count model lists built = are_lists-count model lists built.are_lists

-- the marks of no node
pub AreMarks-empty : (model : Model) (marks : List Bool) → marks ≡ replicate model.nodes false → AreMarks model.nodes (empty_lists model) marks
AreMarks-empty model marks e = record {
  one_of_each = ap length e ∙ length-replicate {A = Bool} model.nodes false;
  each = λ node d low. ap (λ m. slice_index_or m node d) e ∙ at model.nodes node d low ∙ sym (is_active-none (length model.vehicles) node);
}
  where
    at : (n node : ℕ) (d : Bool) → node < n → slice_index_or (replicate n false) node d ≡ false
    at zero node d low = absurd (omega (arith, low))
    at (suc n) zero d low = refl
    at (suc n) (suc node) d low = at n node d (omega (arith, low))

-- the marks of one node more
pub AreMarks-more : (n : ℕ) (lists : List (List ℕ)) (marks : List Bool) (mark : Bool)
    → AreMarks n lists marks → mark ≡ is_active lists n → AreMarks (n + 1) lists (marks ++ mark ∷ [])
AreMarks-more n lists marks mark are is = record {
  one_of_each = (let a = length-append marks (mark ∷ []) in let m = are.one_of_each in omega (arith, a, m));
  each = λ node d low. by node d low (nat_lt node n) refl;
}
  where
    by : (node : ℕ) (d : Bool) → node < n + 1 → (b : Bool) → nat_lt node n ≡ b → slice_index_or (marks ++ mark ∷ []) node d ≡ is_active lists node
    by node d low true e =
        get_or_append_left marks (mark ∷ []) d node (let m = are.one_of_each in let l : node < n = grind (arith, nat_tests, e) in omega (arith, m, l))
        ∙ are.each node d (grind (arith, nat_tests, e))
    by node d low false e =
        let last : n ≡ node = grind (arith, nat_tests, e, low) in
        subst (λ k. slice_index_or (marks ++ mark ∷ []) k d ≡ is_active lists k) last
        (ap (λ k. slice_index_or (marks ++ mark ∷ []) k d) (sym are.one_of_each) ∙ get_or-append_seam marks mark [] d ∙ is)
