-- Lists that a vehicle may drive carry what their items take, wherever these go.
use Rattle.std.proofs.Common.{◌≡◌, ◌∙◌, ℕ, suc, ◌+◌, ◌<◌, ◌≤◌, ◌++◌, Bool, true, false, cond, List, [], ◌∷◌, length, take, drop, refl, sym, ap, subst, inl, inr}
use Rattle.std.proofs.Common.{map, arith, add-one, of_z, to_z, w64}
use Rattle.std.specs.Prelude.{ℤ, slice_index_or, IsTrue, ◌+ℤ◌, ◌==◌, ◌&&◌, ◌||◌, int_le, not, slice_range, None}
use Rattle.std.specs.List.{list_all}
use Rattle.std.proofs.lemmas.Int.{ints}
use Rattle.vr_model.specs.declared.records.Model.{Model}
use Rattle.vr_model.specs.deciding.Testing.{and_left}
use Rattle.vr_model.specs.tables.Numbers.{below, from_to, number_at, total_by}
use Rattle.vr_model.specs.tables.Tables.{dimension_at, evaluator_number}
use Rattle.vr_model.specs.tables.WellFormed.{IsWellFormed}
use Rattle.vr_model.specs.schedules.Lines.{line}
use Rattle.vr_model.specs.schedules.Choices.{is_feasible}
use Rattle.vr_model.specs.moves.Moves.{gaps}
use Rattle.vr_model.specs.routes.Routes.{is_empty}
use Rattle.vr_model.specs.routes.Rules.{allows_vehicle, is_route_open, keeps_policy, serves_pair}
use Rattle.vr_model.proofs.schedules.ChoiceLaws.{chosen_where_feasible}
use Rattle.vr_model.proofs.tables.Members.{In, from_each, from_map, of_below, of_from_to}
use Rattle.vr_model.proofs.tables.Tests.{clash, fails, list_all-true}
use Rattle.vr_model.proofs.tables.Totals.{total_by-append}
use Rattle.vr_loads.specs.Loads.{is_load, load_of, taken, HasLoad}
use Rattle.vr_balance.specs.Sums.{IsUpTo}
use Rattle.vr_loads.proofs.LoadLines.{decide, number_low, small}
use Rattle.vr_loads.proofs.Totals.{so-far, total-next, AreSmall}
use Rattle.vr_rules.specs.declared.items.Item.{Item}
use Rattle.vr_rules.specs.declared.items.Item.TheVariants.{Visit, PickupAndDelivery}
use Rattle.vr_rules.specs.Placing.{item_nodes}
use Rattle.vr_rules.proofs.OpenLemmas.{all_pass_below}
use Rattle.vr_ruin.specs.declared.placing.Placing.{Placing}
use Rattle.vr_ruin.specs.declared.placing.Placing.TheVariants.{One, Two}
use Rattle.vr_lists.specs.Pairs.{keeps_pairs}
use Rattle.vr_rules.specs.RoutesOpen.{is_feasible_in_each}
use Rattle.vr_ruin.specs.Carrying.{IsFree, carries, carries_all, carries_in, IsPlain}
use Rattle.vr_ruin.specs.Known.{IsCarriedBy, IsEndWithin}
use Rattle.vr_ruin.specs.Placings.{best_of, item_in, key_of, offer_for, placed, placings_of, AreWithin}
use Rattle.vr_model.specs.first.Choosing.{better}
use Rattle.vr_ruin.proofs.Placed.{split-three}
use Rattle.vr_ruin.proofs.TimelessLemmas.{each_below, some-placed}
use Rattle.std.proofs.lemmas.List.{take-append-drop}
use Rattle.std.proofs.Math.Dec.{eqb-suc-zero}

-- ---- what is taken

-- what a vehicle takes at a node is small
pub taken-small : (model : Model) (d v : ℕ) → HasLoad model d → v < length model.vehicles → AreSmall (taken model d v)
taken-small model d v has low = small model d has (evaluator_number (dimension_at model d) v) (number_low model d has v low)

-- one visit more, as code adds it up
pub next-load : (f : ℕ → ℤ) → AreSmall f → (list : List ℕ) → length list ≤ 1000 → (k : ℕ) → k < length list → (first : ℤ) → IsUpTo 1 first → (load more : ℤ)
    → load ≡ first +ℤ total_by f (take k list) → more ≡ f (slice_index_or list k 0)
    → to_z w64 (of_z w64 (load +ℤ to_z w64 (of_z w64 more))) ≡ first +ℤ total_by f (take (k + 1) list)
next-load f small list few k low first range load more is next =
    let u = so-far f small list few k in
    let h = small.each (slice_index_or list k 0) in
    let n = total-next f list k low in
    let e = ap (λ n. total_by f (take n list)) (add-one k) in
    omega (arith, ints, u.low, u.high, h.low, h.high, range.low, range.high, is, next, n, e)

-- ---- sums

total-one : (f : ℕ → ℤ) (xs ys : List ℕ) (n : ℕ) → total_by f (xs ++ n ∷ ys) ≡ total_by f (xs ++ ys) +ℤ f n
total-one f xs ys n =
    let a = total_by-append f xs (n ∷ ys) in
    let b = total_by-append f xs ys in
    omega (arith, ints, a, b)

total-two : (f : ℕ → ℤ) (xs ms ys : List ℕ) (p d : ℕ) → total_by f (xs ++ p ∷ (ms ++ d ∷ ys)) ≡ total_by f (xs ++ (ms ++ ys)) +ℤ (f p +ℤ f d)
total-two f xs ms ys p d =
    let a = total_by-append f xs (p ∷ (ms ++ d ∷ ys)) in
    let b = total_by-append f xs (ms ++ ys) in
    let c = total-one f ms ys d in
    omega (arith, ints, a, b, c)

total-placed : (f : ℕ → ℤ) (list : List ℕ) (placing : Placing) → AreWithin list placing
    → total_by f (placed list placing) ≡ total_by f list +ℤ total_by f (item_nodes (item_in placing))
total-placed f list (One n t) within =
    let a = total-one f (take t list) (drop t list) n in
    let b = ap (total_by f) (take-append-drop t list) in
    omega (arith, ints, a, b)
total-placed f list (Two p d s t) within =
    let a = total-two f (take s list) (slice_range list s t) (drop t list) p d in
    let b = ap (total_by f) (split-three list s t within.0) in
    omega (arith, ints, a, b)

-- ---- one list

module _ (model : Model) (well : IsWellFormed model) (v : ℕ) (known : v < length model.vehicles)
    (list : List ℕ) (placing : Placing) (within : AreWithin list placing) where
  abbrev after : List ℕ
  after = placed list placing

  abbrev nodes : List ℕ
  nodes = item_nodes (item_in placing)

  load-after : (d : ℕ) → load_of model d v after ≡ load_of model d v list +ℤ total_by (taken model d v) nodes
  load-after d = let t = total-placed (taken model d v) list placing within in omega (arith, ints, t)

  -- in a load the line is feasible exactly if the vehicle can carry all
  feasible-is : (d : ℕ) → d < length model.dimensions → IsTrue (is_load model d) → is_feasible (line model d v after) ≡ carries model d v list nodes
  feasible-is d low load =
      let some = some-placed list placing in
      sym (ap (λ b. b || is_feasible (line model d v after)) some)
      ∙ decide chosen_where_feasible model d v (record { well_formed = well; dimension = low; load = load }) known after
      ∙ ap (λ b. b || int_le (load_of model d v after) (number_at (dimension_at model d).capacities v)) some
      ∙ ap (λ x. int_le x (number_at (dimension_at model d).capacities v)) (load-after d)

  -- a vehicle that drives the list carries all
  carried-in : (d : ℕ) → d < length model.dimensions → is_feasible (line model d v after) ≡ true
      → (b : Bool) → is_load model d ≡ b → carries_in model v list nodes d ≡ true
  carried-in d low feasible true load = ap (λ b. not b || carries model d v list nodes) load ∙ sym (feasible-is d low load) ∙ feasible
  carried-in d low feasible false load = ap (λ b. not b || carries model d v list nodes) load

  feasible-each : is_route_open model v after ≡ true → (d : ℕ) → d < length model.dimensions → is_feasible (line model d v after) ≡ true
  feasible-each opens d low = each_below (λ d. is_feasible (line model d v after)) (length model.dimensions) d
      (and_left (list_all (λ d. is_feasible (line model d v after)) (below (length model.dimensions))) _
      (sym (ap (λ b. b || (list_all (λ d. is_feasible (line model d v after)) (below (length model.dimensions))
      && (list_all (serves_pair after) model.pairs && (keeps_policy model v after && list_all (allows_vehicle model v) after)))) (some-placed list placing))
      ∙ opens)) low

  open-carries : is_route_open model v after ≡ true → carries_all model v list nodes ≡ true
  open-carries opens =
      all_pass_below (carries_in model v list nodes) (length model.dimensions) (λ d low. carried-in d low (feasible-each opens d low) (is_load model d) refl)

  -- where it carries all, the line is feasible in each load
  pub loads-feasible : carries_all model v list nodes ≡ true → IsCarriedBy model v after
  loads-feasible all d low load = feasible-is d low load ∙ sym (ap (λ b. not b || carries model d v list nodes) load)
      ∙ each_below (carries_in model v list nodes) (length model.dimensions) d all low

  -- where it cannot, the list is not open with the item
  pub never-open : carries_all model v list nodes ≡ false → is_route_open model v after ≡ false
  never-open lacks = fails (is_route_open model v after) (λ opens. clash (carries_all model v list nodes) (open-carries opens) lacks)

  -- of a plain model that is all
  pub plain-open : IsPlain model → carries_all model v list nodes ≡ true → is_route_open model v after ≡ true
  plain-open plain all =
      let each : IsTrue (list_all (λ d. is_feasible (line model d v after)) (below (length model.dimensions))) =
      all_pass_below (λ d. is_feasible (line model d v after)) (length model.dimensions) (λ d low.
      feasible-is d low (plain.loads d low) ∙ sym (ap (λ b. not b || carries model d v list nodes) (plain.loads d low))
      ∙ each_below (carries_in model v list nodes) (length model.dimensions) d all low) in
      let pairs : list_all (serves_pair after) model.pairs ≡ true = ap (list_all (serves_pair after)) plain.pairs in
      let policy : keeps_policy model v after ≡ true = ap (λ ps. keeps_policy (record model { pairs = ps }) v after) plain.pairs in
      let allowed : list_all (allows_vehicle model v) after ≡ true =
      ap (λ rows. list_all (allows_vehicle (record model { allowed = rows }) v) after) plain.allowed ∙ list_all-true (λ n. true) (λ n. refl) after in
      by (is_empty after) (list_all (λ d. is_feasible (line model d v after)) (below (length model.dimensions)))
      (list_all (serves_pair after) model.pairs) (keeps_policy model v after) (list_all (allows_vehicle model v) after) each pairs policy allowed
    where
      by : (a b c d e : Bool) → b ≡ true → c ≡ true → d ≡ true → e ≡ true → (a || (b && (c && (d && e)))) ≡ true
      by true b c d e p q r s = refl
      by false b c d e p q r s = ap (λ b. b && (c && (d && e))) p ∙ ap (λ c. c && (d && e)) q ∙ ap (λ d. d && e) r ∙ s

-- ---- a list that is not empty

-- it is not open if some line is not feasible
pub closed-by_lines : (model : Model) (v : ℕ) (list : List ℕ) → is_empty list ≡ false
    → false ≡ is_feasible_in_each model v list → false ≡ is_route_open model v list
closed-by_lines model v list some lines =
    sym (λ i. some i || (sym lines i && (list_all (serves_pair list) model.pairs && (keeps_policy model v list && list_all (allows_vehicle model v) list))))

group-and : (a b c : Bool) → ((a && b) && c) ≡ (a && (b && c))
group-and true b c = refl
group-and false b c = refl

-- if all are, its pairs and the vehicles that its visits allow tell
pub open-by_rest : (model : Model) (v : ℕ) (list : List ℕ) → is_empty list ≡ false → true ≡ is_feasible_in_each model v list
    → (keeps_pairs model v list && list_all (allows_vehicle model v) list) ≡ is_route_open model v list
open-by_rest model v list some lines =
    group-and (list_all (serves_pair list) model.pairs) (keeps_policy model v list) (list_all (allows_vehicle model v) list)
    ∙ sym (λ i. some i || (sym lines i && (list_all (serves_pair list) model.pairs && (keeps_policy model v list && list_all (allows_vehicle model v) list))))

-- nothing is in a list without length
pub none-of : {A : Type 0} (xs : List A) → (length xs == 0) ≡ true → xs ≡ []
none-of [] e = refl
none-of (x ∷ xs) e = absurd (clash (length (x ∷ xs) == 0) e (eqb-suc-zero (length xs)))

-- of a free model that is all
pub free-rest : (model : Model) (v : ℕ) (list : List ℕ) → IsFree model → (keeps_pairs model v list && list_all (allows_vehicle model v) list) ≡ true
free-rest model v list free =
    let pairs : list_all (serves_pair list) model.pairs ≡ true = ap (list_all (serves_pair list)) free.pairs in
    let policy : keeps_policy model v list ≡ true = ap (λ ps. keeps_policy (record model { pairs = ps }) v list) free.pairs in
    let allowed : list_all (allows_vehicle model v) list ≡ true =
    ap (λ rows. list_all (allows_vehicle (record model { allowed = rows }) v) list) free.allowed ∙ list_all-true (λ n. true) (λ n. refl) list in
    by (list_all (serves_pair list) model.pairs) (keeps_policy model v list) (list_all (allows_vehicle model v) list) pairs policy allowed
  where
    by : (a b c : Bool) → a ≡ true → b ≡ true → c ≡ true → ((a && b) && c) ≡ true
    by a b c p q r = ap (λ a. (a && b) && c) p ∙ ap (λ b. b && c) q ∙ r

pub open-if_free : (model : Model) (v : ℕ) (list : List ℕ) → IsFree model → is_empty list ≡ false
    → true ≡ is_feasible_in_each model v list → true ≡ is_route_open model v list
open-if_free model v list free some lines = sym (free-rest model v list free) ∙ open-by_rest model v list some lines

-- ---- all places

within-all : (list : List ℕ) (item : Item) (placing : Placing) → In (placings_of list item) placing → AreWithin list placing × (item_in placing ≡ item)
within-all list (Visit n) placing among = from_map (One n) (gaps list) placing among (λ t there same.
    subst (λ p. AreWithin list p × (item_in p ≡ Visit n)) (sym same) ((let l = of_below (suc (length list)) t there in omega (arith, l)), refl))
within-all list (PickupAndDelivery p d) placing among =
    from_each (λ s. map (Two p d s) (from_to s (suc (length list)))) (gaps list) placing among (λ s there at.
    from_map (Two p d s) (from_to s (suc (length list))) placing at (λ t between same. let range = of_from_to s (suc (length list)) t between in
    subst (λ q. AreWithin list q × (item_in q ≡ PickupAndDelivery p d)) (sym same) ((range.0, (let h = range.1 in omega (arith, h))), refl)))

none-stays : (model : Model) (v : ℕ) (list : List ℕ) (placings : List Placing)
    → ((p : Placing) → In placings p → is_route_open model v (placed list p) ≡ false) → best_of model v list None placings ≡ None
none-stays model v list [] none = refl
none-stays model v list (p ∷ ps) none =
    ap (λ b. best_of model v list (cond b (better key_of None (offer_for model v list p)) None) ps) (none p (inl refl))
    ∙ none-stays model v list ps (λ q there. none q (inr there))

-- where the vehicle cannot carry the item too, none of its places is the best
pub none-best : (model : Model) → IsWellFormed model → (v : ℕ) → v < length model.vehicles
    → (list : List ℕ) (item : Item) → carries_all model v list (item_nodes item) ≡ false
    → None ≡ best_of model v list None (placings_of list item)
none-best model well v known list item lacks = sym (none-stays model v list (placings_of list item) (λ p there.
    let at = within-all list item p there in
    never-open model well v known list p at.0 (ap (λ i. carries_all model v list (item_nodes i)) at.1 ∙ lacks)))

pub ends-within : (list : List ℕ) (placing : Placing) → AreWithin list placing → IsEndWithin (length list) placing
ends-within list (One n t) within = within
ends-within list (Two p d s t) within = within.1
