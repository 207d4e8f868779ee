-- Open lists are valid exactly if they lack nothing.
use Rattle.std.proofs.Common.{◌≡◌, ◌∙◌, ◌<◌, ◌≤◌, ◌+◌, ◌-◌, ◌⊎◌, ℕ, suc, List, [], ◌∷◌, Bool, true, false, cond, not, Option, Some, None, inl, inr, refl, ap}
use Rattle.std.proofs.Common.{ap₂, sym, subst, arith, length, get_or}
use Rattle.std.specs.Prelude.{◌&&◌, ◌||◌, ◌==◌, filter, min, ℤ}
use Rattle.std.specs.List.{list_all}
use Rattle.std.proofs.lemmas.Bool.{eqb-true, eq-eqb}
use Rattle.std.proofs.lemmas.List.Folds.{sum_by-zero}
use Rattle.vr_model.specs.declared.records.Group.{Group}
use Rattle.vr_model.specs.declared.records.Model.{Model}
use Rattle.vr_model.specs.declared.records.Pair.{Pair}
use Rattle.vr_model.specs.tables.Numbers.{below}
use Rattle.vr_model.specs.tables.Tables.{is_visit, visits}
use Rattle.vr_model.specs.tables.WellFormed.{IsWellFormed}
use Rattle.vr_model.specs.routes.Routes.{holds, is_active, route, vehicles}
use Rattle.vr_model.specs.routes.Rules.{active_in, fits_group, has_enough, has_required, is_grouped, is_open, is_route_open, is_valid, serves_pair}
use Rattle.vr_model.specs.moves.Moves.{comes_before}
use Rattle.vr_model.specs.first.Items.{class, first_node, items, must_fill, node_class, unplaced}
use Rattle.vr_model.specs.deciding.Testing.{and_both, and_left, and_right}
use Rattle.vr_model.proofs.tables.Tests.{clash, fails, fails_not, nat_of_test, or-false_right, same_tests, all-from_list_all}
use Rattle.vr_model.proofs.tables.Members.{In, of_filter, to_filter}
use Rattle.vr_rules.specs.declared.items.Item.{Item}
use Rattle.vr_rules.specs.declared.items.Item.TheVariants.{Visit, PickupAndDelivery}
use Rattle.vr_rules.specs.Placing.{item_nodes, AreBuilt, IsItem}
use Rattle.vr_rules.proofs.PlacingLemmas.{inactive-route, item-inactive, list_all-within, open-route}
use Rattle.vr_ruin.specs.Lacking.{lack, missing_items, missing_nodes, needed_by}
use Rattle.vr_ruin.specs.Answering.{OpenIsValidWithoutLack}
use Rattle.vr_ruin.proofs.Fewer.{held_passes}
use Rattle.vr_ruin.proofs.Owners.{in_item, item_is, one_of, visit_in}

-- ---- members of lists

pub all_of_members : {A : Type 0} (p : A → Bool) (xs : List A) → ((x : A) → In xs x → p x ≡ true) → list_all p xs ≡ true
all_of_members p [] h = refl
all_of_members p (x ∷ xs) h = and_both (p x) (list_all p xs) (h x (inl refl)) (all_of_members p xs (λ y among. h y (inr among)))

pub member_passes : {A : Type 0} (p : A → Bool) (xs : List A) (x : A) → list_all p xs ≡ true → In xs x → p x ≡ true
member_passes p [] x h among = absurd among
member_passes p (y ∷ ys) x h (inl e) = subst (λ z. p z ≡ true) (sym e) (and_left (p y) (list_all p ys) h)
member_passes p (y ∷ ys) x h (inr among) = member_passes p ys x (and_right (p y) (list_all p ys) h) among

some_member : {A : Type 0} (xs : List A) (x : A) → In xs x → length xs ≡ 0 → ⊥
some_member [] x among e = among
some_member (y ∷ ys) x among e = omega (arith, e)

none_pass : {A : Type 0} (p : A → Bool) (xs : List A) → ((x : A) → In xs x → p x ≡ false) → length (filter p xs) ≡ 0
none_pass p [] h = refl
none_pass p (x ∷ xs) h = ap (λ b. length (cond b (x ∷ filter p xs) (filter p xs))) (h x (inl refl)) ∙ none_pass p xs (λ y among. h y (inr among))

-- ---- where the first node of an item is active, all its nodes are

comes_before-none : (list : List ℕ) (x y : ℕ) → holds list y ≡ false → comes_before list x y ≡ false
comes_before-none [] x y h = refl
comes_before-none (z ∷ zs) x y h = let rest = or-false_right (y == z) (holds zs y) h in by (z == x) rest (comes_before-none zs x y rest)
  where
    by : (b : Bool) → holds zs y ≡ false → comes_before zs x y ≡ false → cond b (holds zs y) (comes_before zs x y) ≡ false
    by true rest later = rest
    by false rest later = later

unserved : (a b c : Bool) → (not (a || b) || c) ≡ true → b ≡ false → c ≡ false → a ≡ false
unserved true b c h e f = absurd (clash c h f)
unserved false b c h e f = refl

inactive_in_each : (lists : List (List ℕ)) (x : ℕ) → ((v : ℕ) → v < length lists → holds (route lists v) x ≡ false) → is_active lists x ≡ false
inactive_in_each [] x h = refl
inactive_in_each (list ∷ lists) x h = ap₂ (λ a b. a || b) (h 0 (omega arith)) (inactive_in_each lists x (λ v low. h (suc v) (omega (arith, low))))

pickup-absent : (model : Model) (v : ℕ) (list : List ℕ) (k : ℕ) (pair : Pair) → k < length model.pairs → ((d : Pair) → get_or model.pairs k d ≡ pair)
    → is_route_open model v list ≡ true → holds list pair.delivery ≡ false → holds list pair.pickup ≡ false
pickup-absent model v [] k pair low is passes absent = refl
pickup-absent model v (x ∷ xs) k pair low is passes absent =
    let list : List ℕ = x ∷ xs in
    let all = and_left (list_all (serves_pair list) model.pairs) _ (and_right _ _ passes) in
    let served : serves_pair list pair ≡ true = subst (λ p. serves_pair list p ≡ true)
    (is pair) (all-from_list_all (serves_pair list) model.pairs all k pair low) in
    unserved (holds list pair.pickup) (holds list pair.delivery) (comes_before list pair.pickup pair.delivery)
    served absent (comes_before-none list pair.pickup pair.delivery absent)

item-active : (model : Model) (lists : List (List ℕ)) (item : Item) → IsItem model item
    → is_open model lists ≡ true → is_active lists (first_node (item_nodes item)) ≡ true
    → (node : ℕ) → holds (item_nodes item) node ≡ true → is_active lists node ≡ true
item-active model lists (Visit n) valid h first node there = subst (λ m. is_active lists m ≡ true) (sym (one_of node n there)) first
item-active model lists (PickupAndDelivery p d) valid h first node there = by (node == p) refl there
  where
    pair : Pair
    pair = record { pickup = p; delivery = d }

    second : is_active lists d ≡ true
    second = passes (is_active lists d) (λ absent. clash (is_active lists p) first
        (inactive_in_each lists p
        (λ v low. pickup-absent model v (route lists v) valid.of_pairs.0 pair valid.of_pairs.1
        valid.of_pairs.2 (open-route model lists v h low) (inactive-route lists d v absent))))
      where
        passes : (b : Bool) → (b ≡ false → ⊥) → b ≡ true
        passes true f = refl
        passes false f = absurd (f refl)

    by : (b : Bool) → (node == p) ≡ b → (b || ((node == d) || false)) ≡ true → is_active lists node ≡ true
    by true e t = subst (λ m. is_active lists m ≡ true) (sym (eqb-true node p e)) first
    by false e t = subst (λ m. is_active lists m ≡ true) (sym (one_of node d t)) second

-- ---- the class of an item

ungrouped : (model : Model) (x : ℕ) → is_grouped model x ≡ false → node_class model x ≡ 0
ungrouped model x e = ap (λ b. cond b (cond (must_fill model x) 1 2) 0) e

grouped : (model : Model) (x : ℕ) → is_grouped model x ≡ true → 1 ≤ node_class model x
grouped model x e = subst (λ b. 1 ≤ cond b (cond (must_fill model x) 1 2) 0) (sym e) (by (must_fill model x))
  where
    by : (b : Bool) → 1 ≤ cond b 1 2
    by true = omega arith
    by false = omega arith

least_zero : (a b : ℕ) → (a ≡ 0) ⊎ (b ≡ 0) → min a b ≡ 0
least_zero a b (inl e) = grind arith
least_zero a b (inr e) = grind arith

least_some : (a b : ℕ) → 1 ≤ a → 1 ≤ b → 1 ≤ min a b
least_some a b h g = grind arith

-- it is 0 if a node of it is in no group ..
class_zero : (model : Model) (item : Item) (x : ℕ) → holds (item_nodes item) x ≡ true → is_grouped model x ≡ false → class model (item_nodes item) ≡ 0
class_zero model (Visit n) x there e = least_zero 2 (node_class model n) (inr (subst (λ y. node_class model y ≡ 0) (one_of x n there) (ungrouped model x e)))
class_zero model (PickupAndDelivery p d) x there e = by (x == p) refl there
  where
    by : (b : Bool) → (x == p) ≡ b → (b || ((x == d) || false)) ≡ true → min (min 2 (node_class model p)) (node_class model d) ≡ 0
    by true same t = least_zero (min 2 (node_class model p)) (node_class model d)
        (inl (least_zero 2 (node_class model p) (inr (subst (λ y. node_class model y ≡ 0) (eqb-true x p same) (ungrouped model x e)))))
    by false same t =
        least_zero (min 2 (node_class model p)) (node_class model d) (inr (subst (λ y. node_class model y ≡ 0) (one_of x d t) (ungrouped model x e)))

-- .. and only then
zero_class : (model : Model) (item : Item) → class model (item_nodes item) ≡ 0 → (x : ℕ) × (holds (item_nodes item) x ≡ true) × (is_grouped model x ≡ false)
zero_class model (Visit n) e = by (is_grouped model n) refl
  where
    by : (b : Bool) → is_grouped model n ≡ b → (x : ℕ) × (holds (n ∷ []) x ≡ true) × (is_grouped model x ≡ false)
    by false f = (n, ap (λ b. b || false) (eq-eqb n n refl), f)
    by true f = absurd (let some = least_some 2 (node_class model n) (omega arith) (grouped model n f) in omega (arith, e, some))
zero_class model (PickupAndDelivery p d) e = by (is_grouped model p) (is_grouped model d) refl refl
  where
    last : (a : Bool) → (a || (true || false)) ≡ true
    last true = refl
    last false = refl

    by : (a b : Bool) → is_grouped model p ≡ a → is_grouped model d ≡ b → (x : ℕ) × (holds (p ∷ d ∷ []) x ≡ true) × (is_grouped model x ≡ false)
    by false b f g = (p, ap (λ b. b || ((p == d) || false)) (eq-eqb p p refl), f)
    by true false f g = (d, ap (λ b. (d == p) || (b || false)) (eq-eqb d d refl) ∙ last (d == p), g)
    by true true f g = absurd (let some = least_some (min 2 (node_class model p)) (node_class model d)
        (least_some 2 (node_class model p) (omega arith) (grouped model p f)) (grouped model d g) in omega (arith, e, some))

-- ---- items that are missing

module _ (model : Model) (well_formed : IsWellFormed model) (lists : List (List ℕ)) (built : AreBuilt model lists) where
  required_where_none : missing_items model lists ≡ 0 → has_required model lists ≡ true
  required_where_none none = all_of_members (λ node. is_grouped model node || is_active lists node) (visits model)
      (λ x among. by x (of_filter (is_visit model) (below model.nodes) x among).1 (is_grouped model x) refl)
    where
      active : (x : ℕ) → is_visit model x ≡ true → is_grouped model x ≡ false → is_active lists x ≡ true
      active x visit free =
          let found = in_item model well_formed x visit in
          let is = item_is model well_formed found.0 found.1 in
          let there : holds (item_nodes is.0) x ≡ true = subst (λ nodes. holds nodes x ≡ true) (sym is.1) found.2 in
          first x found.0 is.0 is.1 is.2 found.1 there
          (subst (λ nodes. class model nodes ≡ 0) is.1 (class_zero model is.0 x there free)) (is_active lists (first_node found.0)) refl
        where
          first : (x : ℕ) (nodes : List ℕ) (item : Item) → item_nodes item ≡ nodes → IsItem model item
              → In (items model) nodes → holds (item_nodes item) x ≡ true → class model nodes ≡ 0
              → (b : Bool) → is_active lists (first_node nodes) ≡ b → is_active lists x ≡ true
          first x nodes item same valid among there zero_class true e =
              item-active model lists item valid built.are_open (ap (λ n. is_active lists (first_node n)) same ∙ e) x there
          first x nodes item same valid among there zero_class false e =
              absurd (some_member (filter (λ item. class model item == 0) (unplaced model lists)) nodes
              (to_filter (λ item. class model item == 0) (unplaced model lists) nodes
              (to_filter (λ item. not (is_active lists (first_node item))) (items model) nodes among (ap not e)) (eq-eqb (class model nodes) 0 zero_class))
              none)

      by : (x : ℕ) → is_visit model x ≡ true → (b : Bool) → is_grouped model x ≡ b → (is_grouped model x || is_active lists x) ≡ true
      by x visit true e = ap (λ b. b || is_active lists x) e
      by x visit false e = ap₂ (λ a b. a || b) e (active x visit e)

  none_where_required : has_required model lists ≡ true → missing_items model lists ≡ 0
  none_where_required all = none_pass (λ item. class model item == 0) (unplaced model lists) (λ nodes among.
      let of = of_filter (λ item. not (is_active lists (first_node item))) (items model) nodes among in
      let is = item_is model well_formed nodes of.0 in
      fails (class model nodes == 0) (λ zero.
      let free = zero_class model is.0 (ap (class model) is.1 ∙ eqb-true (class model nodes) 0 zero) in
      let inactive = item-inactive model lists is.0 is.2 built.are_open
      (ap (λ n. is_active lists (first_node n)) is.1 ∙ fails_not (is_active lists (first_node nodes)) of.1) free.0 free.1 in
      let visit = held_passes (is_visit model) (item_nodes is.0) free.0 is.2.visits free.1 in
      let passes = member_passes (λ node. is_grouped model node || is_active lists node) (visits model) free.0 all (visit_in model free.0 visit) in
      clash (is_grouped model free.0 || is_active lists free.0) passes (ap₂ (λ a b. a || b) free.2 inactive)))

  items_missing : (missing_items model lists == 0) ≡ has_required model lists
  items_missing = same_tests (missing_items model lists == 0) (has_required model lists)
      (λ h. required_where_none (eqb-true (missing_items model lists) 0 h)) (λ h. eq-eqb (missing_items model lists) 0 (none_where_required h))

  -- ---- nodes of groups that are missing

  fits : list_all (fits_group lists) model.groups ≡ true
  unfolding is_open
  fits = and_right (list_all (λ v. is_route_open model v (route lists v)) (vehicles lists)) (list_all (fits_group lists) model.groups) built.are_open

  group_missing : (group : Group) → fits_group lists group ≡ true
      → (needed_by group.penalty group.max (active_in lists group) == 0) ≡ has_enough group.penalty group.max (active_in lists group)
  group_missing group h = by group.penalty
    where
      low : active_in lists group ≤ group.max
      low = nat_of_test (active_in lists group) group.max h

      by : (penalty : Option ℤ) → (needed_by penalty group.max (active_in lists group) == 0) ≡ has_enough penalty group.max (active_in lists group)
      by (Some x) = refl
      by None = same_tests ((group.max - active_in lists group) == 0) (active_in lists group == group.max)
          (λ t. let e = eqb-true (group.max - active_in lists group) 0 t in
          let same : active_in lists group ≡ group.max = omega (arith, e, low) in eq-eqb (active_in lists group) group.max same)
          (λ t. let e = eqb-true (active_in lists group) group.max t in
          let none : group.max - active_in lists group ≡ 0 = omega (arith, e) in eq-eqb (group.max - active_in lists group) 0 none)

  nodes_missing : (missing_nodes model lists == 0) ≡ list_all (λ group. has_enough group.penalty group.max (active_in lists group)) model.groups
  nodes_missing = sum_by-zero (λ group. needed_by group.penalty group.max (active_in lists group)) model.groups
      ∙ list_all-within (λ group. needed_by group.penalty group.max (active_in lists group) == 0)
      (λ group. has_enough group.penalty group.max (active_in lists group)) model.groups
      (λ g d lt. group_missing (get_or model.groups g d) (all-from_list_all (fits_group lists) model.groups fits g d lt))

  -- ---- both

  both_none : (a b : ℕ) → (a + b == 0) ≡ ((a == 0) && (b == 0))
  both_none a b = same_tests (a + b == 0) ((a == 0) && (b == 0))
      (λ h. let e = eqb-true (a + b) 0 h in let none : a ≡ 0 = omega (arith, e) in
      let other : b ≡ 0 = omega (arith, e) in and_both (a == 0) (b == 0) (eq-eqb a 0 none) (eq-eqb b 0 other))
      (λ h. let none = eqb-true a 0 (and_left (a == 0) (b == 0) h) in let other = eqb-true b 0 (and_right (a == 0) (b == 0) h) in
      let e : a + b ≡ 0 = omega (arith, none, other) in eq-eqb (a + b) 0 e)

  pub valid_is : is_valid model lists ≡ (lack model lists == 0)
  unfolding is_valid lack
  valid_is =
      ap₂ (λ a b. a && (b && (has_required model lists && list_all (λ group. has_enough group.penalty group.max (active_in lists group)) model.groups)))
      built.are_lists built.are_open
      ∙ ap₂ (λ a b. a && b) (sym items_missing) (sym nodes_missing)
      ∙ sym (both_none (missing_items model lists) (missing_nodes model lists))

pub open_is_valid_without_lack : OpenIsValidWithoutLack
open_is_valid_without_lack model lists well_formed built = valid_is model well_formed lists built
