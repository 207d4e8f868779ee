-- The lists with which ruin and recreate begins are open lists of the model.
use Rattle.std.proofs.Common.{◌≡◌, ◌∙◌, ◌<◌, ◌++◌, ℕ, zero, suc, List, [], ◌∷◌, Bool, true, false, cond, not, Option, Some, None, refl, ap, sym, subst, arith}
use Rattle.std.proofs.Common.{inl, inr, length, map}
use Rattle.std.specs.Prelude.{fold, filter, IsTrue, MatchOption, ℤ}
use Rattle.vr_model.specs.declared.records.First.{First}
use Rattle.vr_model.specs.declared.records.First.TheVariants.{PathCheapestArc, ParallelCheapestInsertion, Savings}
use Rattle.vr_model.specs.declared.records.Model.{Model}
use Rattle.vr_model.specs.deciding.Testing.{and_left, and_right}
use Rattle.vr_model.specs.first.CheapestInsertion.{Insertion, inserted, inserted_in, insertion_key, insertions, next_inserted, places_for, rebuilt}
use Rattle.vr_model.specs.first.Choosing.{least_by}
use Rattle.vr_model.specs.first.FirstSolutions.{build, build_by}
use Rattle.vr_model.specs.first.Items.{empty_lists, first_node, items, unplaced}
use Rattle.vr_model.specs.first.PathCheapestArc.{append_key, appended, filled, next_appended}
use Rattle.vr_model.specs.routes.Routes.{are_lists, is_active, route, vehicles}
use Rattle.vr_model.specs.routes.Rules.{is_open, is_valid}
use Rattle.vr_model.specs.search.ChoosingLaws.{IsFirstLeast}
use Rattle.vr_model.specs.tables.ModelRules.{is_savings}
use Rattle.vr_model.specs.tables.Numbers.{below, each}
use Rattle.vr_model.specs.tables.WellFormed.{IsWellFormed, WherePresent}
use Rattle.vr_model.proofs.first.LeastChoice.{least_first}
use Rattle.vr_model.proofs.tables.Members.{In, from_each, from_map, of_below, of_contains, of_filter}
use Rattle.vr_model.proofs.tables.Tests.{fails_not}
use Rattle.vr_rules.specs.Placing.{AreBuilt, IsItem, item_nodes}
use Rattle.vr_rules.specs.declared.items.Item.{Item}
use Rattle.vr_rules.proofs.PlacingLemmas.{AreBuilt-added, AreBuilt-empty, built-count}
use Rattle.vr_first_arc.proofs.AppendLemmas.{IsAdded-appended}
use Rattle.vr_first_savings.proofs.OpenLemmas.{savings-built}
use Rattle.vr_given.specs.Begin.{filled_up, ruin_begin, taken_up}
use Rattle.vr_ruin.proofs.Owners.{item_is}
use Rattle.vr_ruin.proofs.Placed.{item_added, places_in}

-- a least entry stands in the list
least_in : {A : Type 0} (key : A → List ℤ) (xs : List A) (best : A) → least_by key xs ≡ Some best → In xs best
least_in key xs best e =
    let first : IsFirstLeast key xs best = subst (λ o. MatchOption o (xs ≡ []) (IsFirstLeast key xs)) e (least_first key xs) in
    of_contains xs best (first.place, first.in_list, first.stands_there best)

-- valid lists are open lists of the model
pub valid-built : (model : Model) (lists : List (List ℕ)) → IsTrue (is_valid model lists) → AreBuilt model lists
unfolding is_valid
valid-built model lists valid =
    record { are_lists = and_left (are_lists model lists) _ valid; are_open = and_left (is_open model lists) _ (and_right (are_lists model lists) _ valid) }

module _ (model : Model) (well_formed : IsWellFormed model) where
  -- an item in no list
  record IsFree (lists : List (List ℕ)) (nodes : List ℕ) : Type 0 where
    item : Item
    nodes_are : item_nodes item ≡ nodes
    is_item : IsItem model item
    is_free : is_active lists (first_node (item_nodes item)) ≡ false

  free : (lists : List (List ℕ)) (nodes : List ℕ) → In (unplaced model lists) nodes → IsFree lists nodes
  free lists nodes there =
      let kept = of_filter (λ item. not (is_active lists (first_node item))) (items model) nodes there in
      let it = item_is model well_formed nodes kept.0 in record {
        item = it.0;
        nodes_are = it.1;
        is_item = it.2;
        is_free = ap (λ nodes. is_active lists (first_node nodes)) it.1 ∙ fails_not (is_active lists (first_node nodes)) kept.1;
      }

  -- ---- insertion

  next_built : (lists : List (List ℕ)) (insertion : Insertion) → AreBuilt model lists
      → next_inserted model lists ≡ Some insertion → AreBuilt model (inserted lists insertion)
  next_built lists insertion built e =
      let opens : Insertion → Bool = λ insertion. is_open model (inserted lists insertion) in
      let kept = of_filter opens (insertions model lists) insertion
      (least_in (insertion_key model lists) (filter opens (insertions model lists)) insertion e) in
      from_each (λ item. each (vehicles lists) λ v. map (λ places. record { item = item; vehicle = v; places = places }) (places_for item (route lists v)))
      (unplaced model lists) insertion kept.0 λ item item_in of_item.
      from_each (λ v. map (λ places. record { item = item; vehicle = v; places = places }) (places_for item (route lists v)))
      (vehicles lists) insertion of_item λ v v_in at.
      from_map (λ places. record { item = item; vehicle = v; places = places }) (places_for item (route lists v)) insertion at λ places places_at is.
      let free = free lists item item_in in
      let nodes : List ℕ = item_nodes free.item in
      let same : insertion ≡ record { item = nodes; vehicle = v; places = places } = is
      ∙ ap (λ i. record { item = i; vehicle = v; places = places }) (sym free.nodes_are) in
      let list : List ℕ = inserted_in (route lists v) nodes places in
      let added = item_added model lists v free.item places built (of_below (length lists) v v_in) free.is_item free.is_free
      (places_in free.item (route lists v) places (subst (λ i. In (places_for i (route lists v)) places) (sym free.nodes_are) places_at)) in
      subst (λ insertion. AreBuilt model (inserted lists insertion)) (sym same)
      (AreBuilt-added model lists v nodes list built added (sym (ap (λ insertion. is_open model (inserted lists insertion)) same) ∙ kept.1))

  rebuilt_built : (n : ℕ) (lists : List (List ℕ)) → AreBuilt model lists → AreBuilt model (rebuilt model n lists)
  rebuilt_built zero lists built = built
  rebuilt_built (suc n) lists built = by (next_inserted model lists) refl (rebuilt_built n)
    where
      by : (next : Option Insertion) → next_inserted model lists ≡ next
          → ((lists : List (List ℕ)) → AreBuilt model lists → AreBuilt model (rebuilt model n lists))
          → AreBuilt model (elim next [ None ↦ lists | Some insertion ↦ rebuilt model n (inserted lists insertion) ])
      by None e rest = built
      by (Some insertion) e rest = rest (inserted lists insertion) (next_built lists insertion built e)

  -- ---- the cheapest arcs

  appended_built : (lists : List (List ℕ)) (v : ℕ) (item : List ℕ) → v < length lists
      → AreBuilt model lists → next_appended model lists v ≡ Some item → AreBuilt model (appended lists v item)
  appended_built lists v item low built e =
      let opens : List ℕ → Bool = λ item. is_open model (appended lists v item) in
      let kept = of_filter opens (unplaced model lists) item (least_in (append_key model lists v) (filter opens (unplaced model lists)) item e) in
      let free = free lists item kept.0 in
      let nodes : List ℕ = item_nodes free.item in
      subst (λ item. AreBuilt model (appended lists v item)) free.nodes_are
      (AreBuilt-added model lists v nodes (route lists v ++ nodes) built (IsAdded-appended model lists v built low free.item free.is_item free.is_free)
      (ap (λ item. is_open model (appended lists v item)) free.nodes_are ∙ kept.1))

  filled_built : (v n : ℕ) (lists : List (List ℕ)) → v < length model.vehicles → AreBuilt model lists → AreBuilt model (filled model v n lists)
  filled_built v zero lists low built = built
  filled_built v (suc n) lists low built = by (next_appended model lists v) refl (filled_built v n)
    where
      within : v < length lists
      within = omega (arith, low, built-count model lists built)

      by : (next : Option (List ℕ)) → next_appended model lists v ≡ next
          → ((lists : List (List ℕ)) → v < length model.vehicles → AreBuilt model lists → AreBuilt model (filled model v n lists))
          → AreBuilt model (elim next [ None ↦ lists | Some item ↦ filled model v n (appended lists v item) ])
      by None e rest = built
      by (Some item) e rest = rest (appended lists v item) low (appended_built lists v item within built e)

  all_built : (vs : List ℕ) (lists : List (List ℕ)) → ((v : ℕ) → In vs v → v < length model.vehicles) → AreBuilt model lists
      → AreBuilt model (fold (λ lists v. filled model v (length (items model)) lists) lists vs)
  all_built [] lists low built = built
  all_built (v ∷ vs) lists low built = all_built vs (filled model v (length (items model)) lists)
      (λ w there. low w (inr there)) (filled_built v (length (items model)) lists (low v (inl refl)) built)

  -- ---- where ruin and recreate begins

  pub build-built : AreBuilt model (build model)
  unfolding build
  build-built = by model.search.first refl
    where
      by : (first : First) → model.search.first ≡ first → AreBuilt model (build_by first model)
      by PathCheapestArc e = all_built (below (length model.vehicles)) (empty_lists model) (of_below (length model.vehicles)) (AreBuilt-empty model)
      by ParallelCheapestInsertion e = rebuilt_built (length (items model)) (empty_lists model) (AreBuilt-empty model)
      by Savings e = savings-built model well_formed (ap is_savings e)

  taken_built : (given lists : List (List ℕ)) → IsTrue (are_lists model given) → taken_up model given ≡ Some lists → AreBuilt model lists
  taken_built given lists are e = by (is_valid model given) refl e
    where
      of_open : (b : Bool) → is_open model given ≡ b → cond b (Some (filled_up model given)) None ≡ Some lists → AreBuilt model lists
      of_open true opened same =
          let k : filled_up model given ≡ lists = cc in
          subst (AreBuilt model) k (rebuilt_built (length (items model)) given (record { are_lists = are; are_open = opened }))
      of_open false closed same = absurd cc

      by : (b : Bool) → is_valid model given ≡ b
          → cond b (Some given) (cond (is_open model given) (Some (filled_up model given)) None) ≡ Some lists → AreBuilt model lists
      by true valid same = let k : given ≡ lists = cc in subst (AreBuilt model) k (valid-built model given valid)
      by false invalid same = of_open (is_open model given) refl same

  pub ruin-built : (routes : Option (List (List ℕ))) (lists : List (List ℕ))
      → WherePresent (λ lists. IsTrue (are_lists model lists)) routes → ruin_begin model routes ≡ Some lists → AreBuilt model lists
  unfolding ruin_begin
  ruin-built None lists are e = let k : build model ≡ lists = cc in subst (AreBuilt model) k build-built
  ruin-built (Some given) lists are e = taken_built given lists are e
