-- Routes on trial: what may be written, and what an offer is.
use Rattle.std.proofs.Common.{◌≡◌, ◌∙◌, ◌<◌, ◌≤◌, ◌++◌, ℕ, suc, List, [], ◌∷◌, true, false, cond, None, refl, ap, ap₂, sym, subst, length, map}
use Rattle.std.specs.Prelude.{IsTrue, filter, not, pos, ◌-ℤ◌, Result, Ok, Err, OnErr, OnOk}
use Rattle.std.specs.List.{list_all}
use Rattle.std.specs.Option.{option_map}
use Rattle.std.proofs.lemmas.List.Folds.{fold-map}
use Rattle.vr_model.specs.declared.records.Model.{Model}
use Rattle.vr_model.specs.tables.Numbers.{each, from_to}
use Rattle.vr_model.specs.tables.Tables.{is_visit, visits}
use Rattle.vr_model.specs.routes.Routes.{holds, is_active, is_distinct, route, route_cost}
use Rattle.vr_model.specs.routes.Rules.{is_route_open}
use Rattle.vr_model.specs.moves.Moves.{gaps, with_route}
use Rattle.vr_model.specs.first.Choosing.{least_by}
use Rattle.vr_model.specs.first.Items.{first_node}
use Rattle.vr_model.specs.first.CheapestInsertion.{Insertion, inserted, inserted_in}
use Rattle.vr_model.proofs.tables.Members.{from_map}
use Rattle.vr_model.proofs.routes.Lists.{route_set_same}
use Rattle.vr_routes.specs.Seats.{IsOnce}
use Rattle.vr_routes.proofs.ListsLemmas.{once_of, visits_of}
use Rattle.vr_routes.proofs.TourLemmas.{visit_held}
use Rattle.vr_rules.specs.declared.items.Item.{Item}
use Rattle.vr_rules.specs.declared.items.Item.TheVariants.{Visit, PickupAndDelivery}
use Rattle.vr_rules.specs.Placing.{item_nodes, AreBuilt, IsItem}
use Rattle.vr_rules.proofs.LazyLeast.{IsBest-fold, IsBest-none, IsKnown}
use Rattle.vr_rules.proofs.PlacingLemmas.{built-distinct, built-visits, inactive-route, item-inactive}
use Rattle.vr_ruin.specs.declared.placing.Offer.{Offer}
use Rattle.vr_ruin.specs.declared.placing.Placing.{Placing}
use Rattle.vr_ruin.specs.declared.placing.Placing.TheVariants.{One, Two}
use Rattle.vr_ruin.specs.Offers.{insertions_into, keeps_open, offer, offer_key}
use Rattle.vr_ruin.specs.Placings.{best_of, insertion_of, item_in, key_of, offer_for, placed, places_in, placings_of, weigh, MayHold}
use Rattle.vr_strings.specs.Strings.{goes_out, gone_of, left_of_list, list_after_string}
use Rattle.vr_strings.specs.declared.drawing.StringPlaces.{StringPlaces}
use Rattle.vr_ruin.proofs.AskLemmas.{placed_is}
use Rattle.vr_ruin.proofs.Fewer.{all_left, built_fewer, distinct_left, part_left, set_same}

-- ---- what may be written

pub may_write_visits : (model : Model) (lists : List (List ℕ)) (seen : List ℕ) → seen ≡ visits model
    → AreBuilt model lists → (node : ℕ) → IsTrue (is_active lists node) → IsTrue (holds seen node)
may_write_visits model lists seen same built node active =
    subst (λ vs. IsTrue (holds vs node)) (sym same) (visit_held model node (visits_of model lists built.are_lists node active))

pub may_write_once : (model : Model) (lists : List (List ℕ)) → AreBuilt model lists → IsOnce lists
may_write_once model lists built = once_of model lists built.are_lists

-- ---- the best of all places is the offer

-- an item that is in no list may be put into each
pub may_hold : (model : Model) (lists : List (List ℕ)) (v : ℕ) (item : Item) → AreBuilt model lists → length (route lists v) ≤ 1000
    → IsItem model item → is_active lists (first_node (item_nodes item)) ≡ false → MayHold model (route lists v) item
may_hold model lists v item built few is first = record {
  few = few;
  visits = built-visits model lists v built;
  distinct = built-distinct model lists v built;
  item_visits = is.visits;
  item_distinct = is.distinct;
  absent = λ node there. inactive-route lists node v (item-inactive model lists item is built.are_open first node there);
}

map_both : {A B C : Type 0} (f : B → C) (g : A → B) (xs : List A) → map f (map g xs) ≡ map (λ x. f (g x)) xs
map_both f g [] = refl
map_both f g (x ∷ xs) = ap (λ ys. f (g x) ∷ ys) (map_both f g xs)

map_joined : {A B : Type 0} (f : A → B) (xs ys : List A) → map f (xs ++ ys) ≡ map f xs ++ map f ys
map_joined f [] ys = refl
map_joined f (x ∷ xs) ys = ap (λ zs. f x ∷ zs) (map_joined f xs ys)

map_each : {A B C : Type 0} (f : B → C) (g : A → List B) (xs : List A) → map f (each xs g) ≡ each xs (λ x. map f (g x))
map_each f g [] = refl
map_each f g (x ∷ xs) = map_joined f (g x) (each xs g) ∙ ap (λ ys. map f (g x) ++ ys) (map_each f g xs)

each_same : {A B : Type 0} (f g : A → List B) (xs : List A) → ((x : A) → f x ≡ g x) → each xs f ≡ each xs g
each_same f g [] h = refl
each_same f g (x ∷ xs) h = ap₂ (λ a b. a ++ b) (h x) (each_same f g xs h)

module _ (model : Model) (lists : List (List ℕ)) (v : ℕ) (low : v < length lists) where
  abbrev here : List ℕ
  here = route lists v

  abbrev at_places : List ℕ → List ℕ → Insertion
  at_places item places = record { item = item; vehicle = v; places = places }

  -- the places that code goes through are those of the definition
  insertions_are : (item : Item) → map insertion_of (map (offer_for model v here) (placings_of here item)) ≡ insertions_into lists (item_nodes item) v
  insertions_are (Visit n) =
      map_both insertion_of (offer_for model v here) (map (One n) (gaps here))
      ∙ map_both (λ placing. insertion_of (offer_for model v here placing)) (One n) (gaps here)
      ∙ sym (map_both (at_places (n ∷ [])) (λ t. t ∷ []) (gaps here))
  insertions_are (PickupAndDelivery p d) =
      let f = λ (placing : Placing). insertion_of (offer_for model v here placing) in
      map_both insertion_of (offer_for model v here) (each (gaps here) λ s. map (Two p d s) (from_to s (suc (length here))))
      ∙ map_each f (λ s. map (Two p d s) (from_to s (suc (length here)))) (gaps here)
      ∙ each_same (λ s. map f (map (Two p d s) (from_to s (suc (length here)))))
      (λ s. map (at_places (p ∷ d ∷ [])) (map (λ t. s ∷ t ∷ []) (from_to s (suc (length here))))) (gaps here)
      (λ s. map_both f (Two p d s) (from_to s (suc (length here))) ∙ sym (map_both (at_places (p ∷ d ∷ [])) (λ t. s ∷ t ∷ []) (from_to s (suc (length here)))))
      ∙ sym (map_each (at_places (p ∷ d ∷ [])) (λ s. map (λ t. s ∷ t ∷ []) (from_to s (suc (length here)))) (gaps here))

  -- what code compares and tests of an offer is what the definition does
  known_of : (placing : Placing) → IsKnown insertion_of (offer_key model lists) key_of (keeps_open model lists)
      (λ offer. Unit {0}) (λ offer. is_route_open model offer.vehicle (placed here offer.placing)) (offer_for model v here placing)
  known_of placing =
      let after = placed_is here placing in
      let there = route_set_same lists v (inserted_in here (item_nodes (item_in placing)) (places_in placing)) low in
      record {
        keyed = ap (λ list. (route_cost model v list -ℤ route_cost model v here) ∷ map pos (places_in placing)) (after ∙ sym there);
        tested = ap (is_route_open model v) after;
        good = λ e. tt;
      }

  pub best_is_offer : (item : Item) → option_map insertion_of (best_of model v here None (placings_of here item)) ≡ offer model lists (item_nodes item) v
  best_is_offer item =
      let offers_in = map (offer_for model v here) (placings_of here item) in
      let folded = fold-map (weigh model here) (offer_for model v here) None (placings_of here item) in
      let best = IsBest-fold insertion_of (offer_key model lists) key_of (keeps_open model lists)
      (λ offer. Unit {0}) (λ offer. is_route_open model offer.vehicle (placed here offer.placing)) None offers_in []
      (IsBest-none insertion_of (offer_key model lists) key_of (keeps_open model lists) (λ offer. Unit {0}))
      (λ o among. from_map (offer_for model v here) (placings_of here item) o among (λ placing there same.
      subst (IsKnown insertion_of (offer_key model lists) key_of (keeps_open model lists) (λ offer. Unit {0})
      (λ offer. is_route_open model offer.vehicle (placed here offer.placing))) (sym same) (known_of placing))) in
      ap (option_map insertion_of) (sym folded) ∙ best.least
      ∙ ap (λ xs. least_by (offer_key model lists) (filter (keeps_open model lists) xs)) (insertions_are item)

-- ---- an offer that is written out

pub written_is : (lists inside : List (List ℕ)) (offer : Offer) (xs list : List ℕ) → xs ≡ placed list offer.placing
    → list ≡ route inside offer.vehicle → inside ≡ lists → with_route inside offer.vehicle xs ≡ inserted lists (insertion_of offer)
written_is lists inside offer xs list written stands same =
    ap (with_route inside offer.vehicle) (written ∙ ap (λ l. placed l offer.placing) stands ∙ placed_is (route inside offer.vehicle) offer.placing)
    ∙ ap (λ ls. inserted ls (insertion_of offer)) same

-- ---- a list that is cut

module _ (model : Model) (lists : List (List ℕ)) (v : ℕ) (string : StringPlaces) (built : AreBuilt model lists) (low : v < length lists) where
  -- what is left of it
  abbrev pub left_over : List ℕ
  left_over = left_of_list model (route lists v) string

  pub left_visits : list_all (is_visit model) left_over ≡ true
  left_visits =
      all_left (is_visit model) (λ node. not (goes_out model (gone_of (route lists v) string) node)) (route lists v) (built-visits model lists v built)

  pub left_distinct : is_distinct left_over ≡ true
  left_distinct = distinct_left (λ node. not (goes_out model (gone_of (route lists v) string) node)) (route lists v) (built-distinct model lists v built)

  -- it is open
  pub cut_built : is_route_open model v left_over ≡ true → AreBuilt model (with_route lists v left_over)
  cut_built opens = built_fewer model lists v left_over built low
      (part_left (λ node. not (goes_out model (gone_of (route lists v) string) node)) (route lists v) (built-distinct model lists v built)) opens

  pub cut_is : is_route_open model v left_over ≡ true → with_route lists v left_over ≡ with_route lists v (list_after_string model v (route lists v) string)
  cut_is opens = ap (λ b. with_route lists v (cond b left_over (route lists v))) (sym opens)

  -- it is not
  pub whole_is : is_route_open model v left_over ≡ false → lists ≡ with_route lists v (list_after_string model v (route lists v) string)
  whole_is opens = sym (set_same lists v low) ∙ ap (λ b. with_route lists v (cond b left_over (route lists v))) (sym opens)

-- ---- a call that either writes or leaves all as it was

pub either_way : {A E X : Type 0} {P : Type 0} {Q : Type 0} (result : Result A E) → OnOk result P → OnErr result Q → (P → X) → (Q → X) → X
either_way (Ok a) p q f g = f p
either_way (Err e) p q f g = g q
