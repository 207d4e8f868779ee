-- Each item that is appended leaves fewer items unplaced, so as many steps as there are items are enough.
use Rattle.std.proofs.Common.{◌≡◌, ◌∙◌, ◌<◌, ◌≤◌, ◌++◌, ℕ, zero, suc, Bool, true, false, not, cond, List, [], ◌∷◌, length, Option, Some, None, inl, inr, refl}
use Rattle.std.proofs.Common.{ap, sym, subst, arith}
use Rattle.std.specs.Prelude.{◌||◌, ◌==◌, filter, MatchOption}
use Rattle.std.proofs.lemmas.Bool.{eq-eqb}
use Rattle.std.proofs.lemmas.List.{length-set}
use Rattle.std.proofs.lemmas.List.Folds.{list_any-append}
use Rattle.std.proofs.lemmas.List.Sums.{count_by-le-length, length-filter}
use Rattle.vr_model.specs.declared.records.Model.{Model}
use Rattle.vr_model.specs.declared.records.Pair.{Pair}
use Rattle.vr_model.specs.first.Choosing.{least_by}
use Rattle.vr_model.specs.first.Items.{first_node, items, items_at, pair_of, unplaced}
use Rattle.vr_model.specs.first.PathCheapestArc.{append_key, appended, filled, next_appended}
use Rattle.vr_model.specs.routes.Routes.{holds, is_active, route}
use Rattle.vr_model.specs.routes.Rules.{is_open}
use Rattle.vr_model.specs.search.ChoosingLaws.{IsFirstLeast}
use Rattle.vr_model.specs.tables.Tables.{visits}
use Rattle.vr_model.proofs.first.LeastChoice.{least_first}
use Rattle.vr_model.proofs.tables.Members.{In, from_each, of_contains, of_filter}
use Rattle.vr_model.proofs.tables.Tests.{clash}
use Rattle.vr_rules.proofs.LocalOpenness.{is_active-added}
use Rattle.vr_first_arc.specs.Ending.{FillingEnds}

-- ---- fewer entries pass a test that one of them does not pass any more

module _ {A : Type 0} (p q : A → Bool) (less : (x : A) → q x ≡ true → p x ≡ true) where
  no_more : (xs : List A) → length (filter q xs) ≤ length (filter p xs)
  no_more [] = omega arith
  no_more (x ∷ xs) = by (q x) refl (p x) refl (no_more xs)
    where
      by : (b : Bool) → q x ≡ b → (c : Bool) → p x ≡ c → length (filter q xs) ≤ length (filter p xs)
          → length (cond b (x ∷ filter q xs) (filter q xs)) ≤ length (cond c (x ∷ filter p xs) (filter p xs))
      by true e true f h = omega (arith, h)
      by false e true f h = omega (arith, h)
      by false e false f h = h
      by true e false f h = absurd (clash (p x) (less x e) f)

  fewer : (xs : List A) (x : A) → In (filter p xs) x → q x ≡ false → length (filter q xs) < length (filter p xs)
  fewer [] x h e = absurd h
  fewer (y ∷ ys) x h e = by (q y) refl (p y) refl h (λ g. fewer ys x g e) (no_more ys)
    where
      by : (b : Bool) → q y ≡ b → (c : Bool) → p y ≡ c → In (cond c (y ∷ filter p ys) (filter p ys)) x
          → (In (filter p ys) x → length (filter q ys) < length (filter p ys)) → length (filter q ys) ≤ length (filter p ys)
          → length (cond b (y ∷ filter q ys) (filter q ys)) < length (cond c (y ∷ filter p ys) (filter p ys))
      by true t true f (inl same) later most = absurd (clash (q x) (ap q same ∙ t) e)
      by true t true f (inr g) later most = let l = later g in omega (arith, l)
      by false t true f g later most = omega (arith, most)
      by false t false f g later most = later g
      by true t false f g later most = absurd (clash (p y) (less y t) f)

-- ---- an item

-- an item has its first node
has_first : (model : Model) (item : List ℕ) → In (items model) item → holds item (first_node item) ≡ true
has_first model item h = from_each (λ node. items_at (pair_of model node) node) (visits model) item h (λ node there is. of_pair (pair_of model node) node is)
  where
    begins : (x : ℕ) (xs : List ℕ) → item ≡ x ∷ xs → holds item (first_node item) ≡ true
    begins x xs e = subst (λ item. holds item (first_node item) ≡ true) (sym e) (ap (λ b. b || holds xs x) (eq-eqb x x refl))

    of_pair : (o : Option Pair) (node : ℕ) → In (items_at o node) item → holds item (first_node item) ≡ true
    of_pair None node (inl e) = begins node [] e
    of_pair None node (inr g) = absurd g
    of_pair (Some pair) node g = by (pair.pickup == node) g
      where
        by : (b : Bool) → In (cond b ((pair.pickup ∷ pair.delivery ∷ []) ∷ []) []) item → holds item (first_node item) ≡ true
        by true (inl e) = begins pair.pickup (pair.delivery ∷ []) e
        by true (inr g) = absurd g
        by false g = absurd g

or-true : (b : Bool) → (b || true) ≡ true
or-true true = refl
or-true false = refl

or-turned : (a b : Bool) → (a || b) ≡ (b || a)
or-turned true true = refl
or-turned true false = refl
or-turned false true = refl
or-turned false false = refl

module _ (model : Model) (v : ℕ) where
  abbrev left : List (List ℕ) → ℕ
  left lists = length (unplaced model lists)

  -- an unplaced item that is appended is placed, and what was active stays so
  fewer_left : (lists : List (List ℕ)) (item : List ℕ) → v < length lists → In (unplaced model lists) item → left (appended lists v item) < left lists
  fewer_left lists item low was =
      fewer (λ other. not (is_active lists (first_node other)))
      (λ other. not (is_active (appended lists v item) (first_node other))) less (items model) item was (ap not there)
    where
      added : (node : ℕ) → is_active (appended lists v item) node ≡ (holds item node || is_active lists node)
      added node = is_active-added lists v (route lists v ++ item) item node low
          (list_any-append (λ y. node == y) (route lists v) item ∙ or-turned (holds (route lists v) node) (holds item node))

      first : holds item (first_node item) ≡ true
      first = has_first model item (of_filter (λ item. not (is_active lists (first_node item))) (items model) item was).0

      there : is_active (appended lists v item) (first_node item) ≡ true
      there = added (first_node item) ∙ ap (λ b. b || is_active lists (first_node item)) first

      less : (other : List ℕ) → not (is_active (appended lists v item) (first_node other)) ≡ true → not (is_active lists (first_node other)) ≡ true
      less other e = by (is_active lists (first_node other)) refl
        where
          by : (b : Bool) → is_active lists (first_node other) ≡ b → not b ≡ true
          by true t = absurd (clash (not (is_active (appended lists v item) (first_node other))) e
              (ap not (added (first_node other) ∙ (ap (λ b. holds item (first_node other) || b) t ∙ or-true (holds item (first_node other))))))
          by false t = refl

  -- ---- the next item

  abbrev open_ones : List (List ℕ) → List (List ℕ)
  open_ones lists = filter (λ item. is_open model (appended lists v item)) (unplaced model lists)

  next_unplaced : (lists : List (List ℕ)) (item : List ℕ) → next_appended model lists v ≡ Some item → In (unplaced model lists) item
  next_unplaced lists item e =
      let first : IsFirstLeast (append_key model lists v) (open_ones lists) item =
      subst (λ o. MatchOption o (open_ones lists ≡ []) (IsFirstLeast (append_key model lists v) (open_ones lists)))
      e (least_first (append_key model lists v) (open_ones lists)) in
      let there = of_contains (open_ones lists) item (first.place, first.in_list, first.stands_there item) in
      (of_filter (λ item. is_open model (appended lists v item)) (unplaced model lists) item there).0

  none_left : (lists : List (List ℕ)) (xs : List (List ℕ)) → unplaced model lists ≡ xs → length xs ≡ 0 → next_appended model lists v ≡ None
  none_left lists [] e n = ap (λ unplaced. least_by (append_key model lists v) (filter (λ item. is_open model (appended lists v item)) unplaced)) e
  none_left lists (x ∷ xs) e n = absurd (omega (arith, n))

  ends : (more : ℕ) (lists : List (List ℕ)) → v < length lists → left lists ≤ more → next_appended model (filled model v more lists) v ≡ None
  ends zero lists low few = none_left lists (unplaced model lists) refl (omega (arith, few))
  ends (suc more) lists low few = by (next_appended model lists v) refl (λ new there less. ends more new there less)
    where
      by : (o : Option (List ℕ)) → next_appended model lists v ≡ o
          → ((new : List (List ℕ)) → v < length new → left new ≤ more → next_appended model (filled model v more new) v ≡ None)
          → next_appended model (elim o [ None ↦ lists | Some item ↦ filled model v more (appended lists v item) ]) v ≡ None
      by None e later = e
      by (Some item) e later =
          let l = fewer_left lists item low (next_unplaced lists item e) in
          let n = length-set lists v (route lists v ++ item) in
          later (appended lists v item) (omega (arith, n, low)) (omega (arith, l, few))

  all_left : (lists : List (List ℕ)) → left lists ≤ length (items model)
  all_left lists =
      let test = λ (item : List ℕ). not (is_active lists (first_node item)) in
      let n = length-filter test (items model) in
      let l = count_by-le-length test (items model) in
      omega (arith, n, l)

pub filling_ends : FillingEnds
filling_ends model v lists low = ends model v (length (items model)) lists low (all_left model v lists)
