-- Each insertion leaves fewer items unplaced, so as many steps as there are items are enough.
use Rattle.std.proofs.Common.{◌≡◌, ◌∙◌, ◌<◌, ◌≤◌, ℕ, zero, suc, Bool, true, false, not, cond, List, [], ◌∷◌, length, map, Option, Some, None, inl, inr, refl}
use Rattle.std.proofs.Common.{ap, sym, subst, arith}
use Rattle.std.specs.Prelude.{◌||◌, ◌==◌, filter, MatchOption}
use Rattle.std.proofs.lemmas.Bool.{eq-eqb}
use Rattle.std.proofs.lemmas.List.Sums.{count_by-le-length, length-filter}
use Rattle.vr_model.specs.declared.records.Model.{Model}
use Rattle.vr_model.specs.first.CheapestInsertion.{Insertion, inserted, inserted_in, insertion_key, insertions, next_inserted, places_for, rebuilt}
use Rattle.vr_model.specs.first.Choosing.{least_by}
use Rattle.vr_model.specs.first.Items.{first_node, items, unplaced}
use Rattle.vr_model.specs.moves.Moves.{gaps, with_route}
use Rattle.vr_model.specs.routes.Routes.{holds, is_active, route, vehicles}
use Rattle.vr_model.specs.routes.Rules.{is_open}
use Rattle.vr_model.specs.search.ChoosingLaws.{IsFirstLeast}
use Rattle.vr_model.specs.tables.Numbers.{each, from_to}
use Rattle.vr_model.proofs.first.LeastChoice.{least_first}
use Rattle.vr_model.proofs.tables.Members.{In, from_each, from_map, of_below, of_contains, of_filter, of_from_to}
use Rattle.vr_model.proofs.tables.Tests.{clash}
use Rattle.vr_rules.proofs.LocalOpenness.{is_active-added}
use Rattle.vr_rules.specs.Placing.{item_nodes}
use Rattle.vr_first_insert.specs.Ending.{InsertionEnds}
use Rattle.vr_first_insert.specs.Placings.{AreWithin, item_in, placed}
use Rattle.vr_first_insert.specs.declared.choice.Placing.{Placing}
use Rattle.vr_first_insert.specs.declared.choice.Placing.TheVariants.{One, Two}
use Rattle.vr_first_insert.proofs.PlacedLemmas.{placed-holds}

-- ---- fewer entries pass a test that one of them does not pass any more

module _ {A : Type 0} (p q : A → Bool) (less : (x : A) → q x ≡ true → p x ≡ true) where
  no_more : (xs : List A) → length (filter q xs) ≤ length (filter p xs)
  no_more [] = omega arith
  no_more (x ∷ xs) = by (q x) refl (p x) refl (no_more xs)
    where
      by : (b : Bool) → q x ≡ b → (c : Bool) → p x ≡ c → length (filter q xs) ≤ length (filter p xs)
          → length (cond b (x ∷ filter q xs) (filter q xs)) ≤ length (cond c (x ∷ filter p xs) (filter p xs))
      by true e true f h = omega (arith, h)
      by false e true f h = omega (arith, h)
      by false e false f h = h
      by true e false f h = absurd (clash (p x) (less x e) f)

  fewer : (xs : List A) (x : A) → In (filter p xs) x → q x ≡ false → length (filter q xs) < length (filter p xs)
  fewer [] x h e = absurd h
  fewer (y ∷ ys) x h e = by (q y) refl (p y) refl h (λ g. fewer ys x g e) (no_more ys)
    where
      by : (b : Bool) → q y ≡ b → (c : Bool) → p y ≡ c → In (cond c (y ∷ filter p ys) (filter p ys)) x
          → (In (filter p ys) x → length (filter q ys) < length (filter p ys)) → length (filter q ys) ≤ length (filter p ys)
          → length (cond b (y ∷ filter q ys) (filter q ys)) < length (cond c (y ∷ filter p ys) (filter p ys))
      by true t true f (inl same) later most = absurd (clash (q x) (ap q same ∙ t) e)
      by true t true f (inr g) later most = let l = later g in omega (arith, l)
      by false t true f g later most = omega (arith, most)
      by false t false f g later most = later g
      by true t false f g later most = absurd (clash (p y) (less y t) f)

-- ---- an insertion

-- an unplaced item was put into lists, and what was active stays so
record IsStep (model : Model) (old new : List (List ℕ)) (item : List ℕ) : Type 0 where
  was : In (unplaced model old) item
  there : is_active new (first_node item) ≡ true
  kept : (node : ℕ) → is_active old node ≡ true → is_active new node ≡ true

or-true : (b : Bool) → (b || true) ≡ true
or-true true = refl
or-true false = refl

module _ (model : Model) where
  abbrev left : List (List ℕ) → ℕ
  left lists = length (unplaced model lists)

  fewer_left : (old new : List (List ℕ)) (item : List ℕ) → IsStep model old new item → left new < left old
  fewer_left old new item step =
      fewer (λ item. not (is_active old (first_node item))) (λ item. not (is_active new (first_node item))) less (items model) item step.was (ap not step.there)
    where
      less : (item : List ℕ) → not (is_active new (first_node item)) ≡ true → not (is_active old (first_node item)) ≡ true
      less item e = by (is_active old (first_node item)) refl
        where
          by : (b : Bool) → is_active old (first_node item) ≡ b → not b ≡ true
          by true t = absurd (clash (not (is_active new (first_node item))) e (ap not (step.kept (first_node item) t)))
          by false t = refl

  module _ (lists : List (List ℕ)) (v : ℕ) (low : v < length lists) (item : List ℕ) (was : In (unplaced model lists) item) where
    put : (placing : Placing) → AreWithin (route lists v) placing → holds (item_nodes (item_in placing)) (first_node item) ≡ true
        → IsStep model lists (with_route lists v (placed (route lists v) placing)) item
    put placing within first = record {
      was = was;
      there = added (first_node item) ∙ ap (λ b. b || is_active lists (first_node item)) first;
      kept = λ node e. added node ∙ (ap (λ b. holds (item_nodes (item_in placing)) node || b) e ∙ or-true (holds (item_nodes (item_in placing)) node));
    }
      where
        added : (node : ℕ)
            → is_active (with_route lists v (placed (route lists v) placing)) node ≡ (holds (item_nodes (item_in placing)) node || is_active lists node)
        added node =
            is_active-added lists v (placed (route lists v) placing) (item_nodes (item_in placing)) node low (placed-holds (route lists v) placing within node)

    put_one : (places : List ℕ) → In (map (λ t. t ∷ []) (gaps (route lists v))) places
        → ((t : ℕ) → places ≡ t ∷ [] → inserted_in (route lists v) item places ≡ placed (route lists v) (One (first_node item) t))
        → IsStep model lists (with_route lists v (inserted_in (route lists v) item places)) item
    put_one places h is = from_map (λ t. t ∷ []) (gaps (route lists v)) places h (λ t there same.
        subst (λ list. IsStep model lists (with_route lists v list) item) (sym (is t same))
        (put (One (first_node item) t) (let l = of_below (suc (length (route lists v))) t there in omega (arith, l))
        (ap (λ b. b || false) (eq-eqb (first_node item) (first_node item) refl))))

  put_in : (lists : List (List ℕ)) (v : ℕ) (item places : List ℕ) → v < length lists
      → In (unplaced model lists) item → In (places_for item (route lists v)) places
      → IsStep model lists (with_route lists v (inserted_in (route lists v) item places)) item
  put_in lists v [] places low was h = put_one lists v low [] was places h (λ t same. ap (inserted_in (route lists v) []) same)
  put_in lists v (n ∷ []) places low was h = put_one lists v low (n ∷ []) was places h (λ t same. ap (inserted_in (route lists v) (n ∷ [])) same)
  put_in lists v (n ∷ m ∷ k ∷ rest) places low was h =
      put_one lists v low (n ∷ m ∷ k ∷ rest) was places h (λ t same. ap (inserted_in (route lists v) (n ∷ m ∷ k ∷ rest)) same)
  put_in lists v (pickup ∷ delivery ∷ []) places low was h =
      from_each (λ s. map (λ t. s ∷ t ∷ []) (from_to s (suc (length (route lists v))))) (gaps (route lists v)) places h (λ s from more.
      from_map (λ t. s ∷ t ∷ []) (from_to s (suc (length (route lists v)))) places more (λ t there same.
      subst (λ ps. IsStep model lists (with_route lists v (inserted_in (route lists v) (pickup ∷ delivery ∷ []) ps)) (pickup ∷ delivery ∷ [])) (sym same)
      (put lists v low (pickup ∷ delivery ∷ []) was (Two pickup delivery s t)
      (let r = of_from_to s (suc (length (route lists v))) t there in (r.0, (let l = r.1 in omega (arith, l))))
      (ap (λ b. b || ((pickup == delivery) || false)) (eq-eqb pickup pickup refl)))))

  -- what an insertion of the list of all insertions does
  abbrev Steps : List (List ℕ) → Insertion → Type 0
  Steps lists insertion = IsStep model lists (inserted lists insertion) insertion.item

  steps : (lists : List (List ℕ)) (insertion : Insertion) → In (insertions model lists) insertion → Steps lists insertion
  steps lists insertion h =
      from_each (λ item. each (vehicles lists) λ v. map (λ places. record { item = item; vehicle = v; places = places }) (places_for item (route lists v)))
      (unplaced model lists) insertion h (λ item was more.
      from_each (λ v. map (λ places. record { item = item; vehicle = v; places = places }) (places_for item (route lists v)))
      (vehicles lists) insertion more (λ v low rest.
      from_map (λ places. record { item = item; vehicle = v; places = places }) (places_for item (route lists v)) insertion rest (λ places there same.
      subst (Steps lists) (sym same) (put_in lists v item places (of_below (length lists) v low) was there))))

  -- ---- the next insertion

  abbrev open_ones : List (List ℕ) → List Insertion
  open_ones lists = filter (λ insertion. is_open model (inserted lists insertion)) (insertions model lists)

  next_steps : (lists : List (List ℕ)) (insertion : Insertion) → next_inserted model lists ≡ Some insertion → Steps lists insertion
  next_steps lists insertion e =
      let first : IsFirstLeast (insertion_key model lists) (open_ones lists) insertion =
      subst (λ o. MatchOption o (open_ones lists ≡ []) (IsFirstLeast (insertion_key model lists) (open_ones lists)))
      e (least_first (insertion_key model lists) (open_ones lists)) in
      let there = of_contains (open_ones lists) insertion (first.place, first.in_list, first.stands_there insertion) in
      steps lists insertion (of_filter (λ insertion. is_open model (inserted lists insertion)) (insertions model lists) insertion there).0

  none_left : (lists : List (List ℕ)) (xs : List (List ℕ)) → unplaced model lists ≡ xs → length xs ≡ 0 → next_inserted model lists ≡ None
  none_left lists [] e n =
      ap (λ unplaced. least_by (insertion_key model lists)
      (filter (λ insertion. is_open model (inserted lists insertion)) (each unplaced λ item. each (vehicles lists) λ v.
      map (λ places. record { item = item; vehicle = v; places = places }) (places_for item (route lists v))))) e
  none_left lists (x ∷ xs) e n = absurd (omega (arith, n))

  ends : (more : ℕ) (lists : List (List ℕ)) → left lists ≤ more → next_inserted model (rebuilt model more lists) ≡ None
  ends zero lists few = none_left lists (unplaced model lists) refl (omega (arith, few))
  ends (suc more) lists few = by (next_inserted model lists) refl (λ new less. ends more new less)
    where
      by : (o : Option Insertion) → next_inserted model lists ≡ o
          → ((new : List (List ℕ)) → left new ≤ more → next_inserted model (rebuilt model more new) ≡ None)
          → next_inserted model (elim o [ None ↦ lists | Some insertion ↦ rebuilt model more (inserted lists insertion) ]) ≡ None
      by None e later = e
      by (Some insertion) e later = later (inserted lists insertion)
          (let l = fewer_left lists (inserted lists insertion) insertion.item (next_steps lists insertion e) in omega (arith, l, few))

  all_left : (lists : List (List ℕ)) → left lists ≤ length (items model)
  all_left lists =
      let test = λ (item : List ℕ). not (is_active lists (first_node item)) in
      let n = length-filter test (items model) in
      let l = count_by-le-length test (items model) in
      omega (arith, n, l)

pub insertion_ends : InsertionEnds
insertion_ends model lists = ends model (length (items model)) lists (all_left model lists)
