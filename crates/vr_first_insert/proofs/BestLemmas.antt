-- The insertion that is made next is the least of all that may be made: candidate by candidate, list by list, place by place.
use Rattle.std.proofs.Common.{◌≡◌, ◌∙◌, ◌<◌, ◌≤◌, ◌+◌, ◌++◌, ℕ, zero, suc, List, [], ◌∷◌, Bool, true, false, cond, not, Option, Some, None, refl, ap, ap₂, sym}
use Rattle.std.proofs.Common.{subst, inl, inr, arith, length, take, get_or, append_assoc, ℤ, pos}
use Rattle.std.specs.Prelude.{map, filter, fold, ◌&&◌, ◌-ℤ◌}
use Rattle.std.specs.Option.{option_map}
use Rattle.std.specs.List.{list_all}
use Rattle.std.proofs.lemmas.List.{append-nil, map-append, take_more, take_all, length-map}
use Rattle.std.proofs.lemmas.List.Elements.{filter-append}
use Rattle.std.proofs.lemmas.Grind.{flat_map-append}
use Rattle.vr_model.specs.declared.records.Model.{Model}
use Rattle.vr_model.specs.tables.Numbers.{from_to, each}
use Rattle.vr_model.specs.tables.Tables.{is_visit}
use Rattle.vr_model.specs.routes.Routes.{route, route_cost, is_active, vehicles}
use Rattle.vr_model.specs.moves.Moves.{with_route, gaps}
use Rattle.vr_model.specs.routes.Rules.{is_open, is_route_open}
use Rattle.vr_model.specs.first.Items.{items, class, first_node, unplaced}
use Rattle.vr_model.specs.first.Choosing.{least_by}
use Rattle.vr_model.specs.first.CheapestInsertion.{Insertion, inserted, insertion_key, increase, places_for, next_inserted, rebuilt}
use Rattle.vr_model.specs.tables.WellFormed.{IsWellFormed}
use Rattle.vr_model.specs.deciding.Testing.{and_left}
use Rattle.vr_model.proofs.tables.Tests.{clash}
use Rattle.vr_model.proofs.tables.Members.{In, from_each, from_map, of_below, of_from_to}
use Rattle.vr_rules.specs.declared.items.Item.{Item}
use Rattle.vr_rules.specs.declared.items.Item.TheVariants.{Visit, PickupAndDelivery}
use Rattle.vr_rules.specs.declared.items.Candidate.{Candidate}
use Rattle.vr_rules.specs.Placing.{item_nodes, is_marked, has_room, fits_beside, AreBuilt, AreMarks, AreCandidates, IsCandidate, IsItem}
use Rattle.vr_model.proofs.routes.Lists.{visit_below}
use Rattle.vr_rules.proofs.LocalOpenness.{is_open-local}
use Rattle.vr_model.proofs.routes.Lists.{route_set_same}
use Rattle.vr_rules.proofs.LazyLeast.{IsBest, IsBest-none, IsBest-fold, IsBest-failed, IsKnown}
use Rattle.vr_rules.proofs.PlacingLemmas.{fits_beside-marks}
use Rattle.vr_first_insert.specs.declared.choice.Placing.{Placing}
use Rattle.vr_first_insert.specs.declared.choice.Placing.TheVariants.{One, Two}
use Rattle.vr_first_insert.specs.declared.choice.InsertionChoice.{InsertionChoice}
use Rattle.vr_first_insert.specs.Placings.{item_in, placed, insertion_of, key_of, tail_key, visit_choice, pair_choice, choices_in, best_in, best_in_lists}
use Rattle.vr_first_insert.specs.Placings.{may_be_placed, best_beside, places_in, AreWithin, MayBeInserted, MayHold}
use Rattle.vr_first_insert.specs.Waiting.{unplaced_of}
use Rattle.vr_first_insert.proofs.PlacedLemmas.{IsAdded-placed, MayHold-inactive}
use Rattle.vr_first_insert.proofs.IncreaseLemmas.{increase_of, increase-is}

-- the insertions of an item into the list of vehicle v
abbrev pub insertions_in : List (List ℕ) → List ℕ → ℕ → List Insertion
insertions_in lists item v = map (λ places. record { item = item; vehicle = v; places = places }) (places_for item (route lists v))

-- the insertions of an item into some list
abbrev pub insertions_of : List (List ℕ) → List ℕ → List Insertion
insertions_of lists item = each (vehicles lists) (insertions_in lists item)

-- the unplaced items among the first candidates
abbrev pub seen : List (List ℕ) → List Candidate → ℕ → List (List ℕ)
seen lists candidates i = filter (λ item. not (is_active lists (first_node item))) (map (λ candidate. item_nodes candidate.item) (take i candidates))

-- the best choice among insertions
abbrev pub IsBestOf : Model → List (List ℕ) → Option InsertionChoice → List Insertion → Type 0
IsBestOf model lists best =
    IsBest insertion_of (insertion_key model lists) key_of (λ insertion. is_open model (inserted lists insertion)) (MayBeInserted model lists) best

-- ---- choices stand for insertions

map-both : {B D E F : Type 0} (f : B → D) (g : D → F) (h : B → E) (k : E → F)
    → ((b : B) → g (f b) ≡ k (h b)) → (bs : List B) → map g (map f bs) ≡ map k (map h bs)
map-both f g h k e [] = refl
map-both f g h k e (b ∷ bs) = ap₂ (λ x xs. x ∷ xs) (e b) (map-both f g h k e bs)

each-both : (f : ℕ → ℕ → InsertionChoice) (h : ℕ → ℕ → List ℕ) (k : List ℕ → Insertion)
    → ((s t : ℕ) → insertion_of (f s t) ≡ k (h s t)) → (ts : ℕ → List ℕ) (ss : List ℕ)
    → map insertion_of (each ss (λ s. map (f s) (ts s))) ≡ map k (each ss (λ s. map (h s) (ts s)))
each-both f h k e ts [] = refl
each-both f h k e ts (s ∷ ss) =
    map-append insertion_of (map (f s) (ts s)) (each ss (λ s. map (f s) (ts s)))
    ∙ ap₂ (λ xs ys. xs ++ ys) (map-both (f s) insertion_of (h s) k (e s) (ts s)) (each-both f h k e ts ss)
    ∙ sym (map-append k (map (h s) (ts s)) (each ss (λ s. map (h s) (ts s))))

choices-are : (model : Model) (lists : List (List ℕ)) (v cls : ℕ) (item : Item)
    → map insertion_of (choices_in model v (route lists v) cls item) ≡ insertions_in lists (item_nodes item) v
choices-are model lists v cls (Visit n) =
    map-both (visit_choice model v (route lists v) cls n) insertion_of (λ t. t ∷ [])
    (λ places. record { item = n ∷ []; vehicle = v; places = places }) (λ t. refl) (gaps (route lists v))
choices-are model lists v cls (PickupAndDelivery p d) =
    each-both (pair_choice model v (route lists v) cls p d) (λ s t. s ∷ t ∷ [])
    (λ places. record { item = p ∷ d ∷ []; vehicle = v; places = places }) (λ s t. refl)
    (λ s. from_to s (suc (length (route lists v)))) (gaps (route lists v))

-- a choice of an item in the list of vehicle v
record IsChoice (model : Model) (lists : List (List ℕ)) (v cls : ℕ) (item : Item) (choice : InsertionChoice) : Type 0 where
  made : (placing : Placing) × (item_in placing ≡ item) × AreWithin (route lists v) placing
      × (choice ≡ record { placing = placing; class = cls; vehicle = v; increase = increase_of model v (route lists v) placing })

choice-of : (model : Model) (lists : List (List ℕ)) (v cls : ℕ) (item : Item) (choice : InsertionChoice)
    → In (choices_in model v (route lists v) cls item) choice → IsChoice model lists v cls item choice
choice-of model lists v cls (Visit n) choice there =
    from_map (visit_choice model v (route lists v) cls n) (gaps (route lists v)) choice there
    (λ t low is. record { made = (One n t, refl, (let l = of_below (suc (length (route lists v))) t low in omega (arith, l)), is) })
choice-of model lists v cls (PickupAndDelivery p d) choice there =
    from_each (λ s. map (pair_choice model v (route lists v) cls p d s) (from_to s (suc (length (route lists v))))) (gaps (route lists v)) choice there
    (λ s s_in inner. from_map (pair_choice model v (route lists v) cls p d s) (from_to s (suc (length (route lists v)))) choice inner
    (λ t t_in is. let b = of_from_to s (suc (length (route lists v))) t t_in in let low = b.0 in
    let high = b.1 in record { made = (Two p d s t, refl, (omega (arith, low), omega (arith, high)), is) }))

and-true : (a b : Bool) → b ≡ true → (a && b) ≡ a
and-true true b e = e
and-true false b e = refl

and-false : (a b : Bool) → b ≡ false → (a && b) ≡ false
and-false true b e = e
and-false false b e = refl

module _ (model : Model) (lists : List (List ℕ)) (well_formed : IsWellFormed model) (built : AreBuilt model lists)
    (marks : List Bool) (are : AreMarks model.nodes lists marks) (candidate : Candidate) (valid : IsCandidate model candidate)
    (free : is_active lists (first_node (item_nodes candidate.item)) ≡ false) where
  -- the lists after an insertion are open where the list is, and the groups have room
  local : (v : ℕ) (placing : Placing) → v < length lists → item_in placing ≡ candidate.item → AreWithin (route lists v) placing
      → is_open model (with_route lists v (placed (route lists v) placing))
      ≡ (is_route_open model v (placed (route lists v) placing) && list_all (has_room marks candidate.item) model.groups)
  local v placing low is within =
      let item_valid : IsItem model (item_in placing) = subst (IsItem model) (sym is) valid.item in
      let inactive : is_active lists (first_node (item_nodes (item_in placing))) ≡ false = ap (λ item. is_active lists (first_node (item_nodes item))) is
      ∙ free in
      let added = IsAdded-placed model lists v placing built low item_valid inactive within in
      is_open-local model lists v (placed (route lists v) placing) (item_nodes (item_in placing)) built.are_open low added.nodes_are
      ∙ ap (λ b. is_route_open model v (placed (route lists v) placing) && b)
      (ap (λ item. fits_beside model lists (item_nodes item)) is ∙ sym (fits_beside-marks model well_formed lists marks candidate.item are))

  inserted-is : (v : ℕ) (placing : Placing) (increase : ℤ)
      → inserted lists (insertion_of (record { placing = placing; class = candidate.class; vehicle = v; increase = increase }))
      ≡ with_route lists v (placed (route lists v) placing)
  inserted-is v (One n t) increase = refl
  inserted-is v (Two p d s t) increase = refl

  -- what is known of a choice
  abbrev KnownItem : ℕ → InsertionChoice → Type 0
  KnownItem v = IsKnown insertion_of (insertion_key model lists) key_of (λ insertion. is_open model (inserted lists insertion))
      (MayBeInserted model lists) (λ next. is_route_open model next.vehicle (placed (route lists v) next.placing))

  known : list_all (has_room marks candidate.item) model.groups ≡ true → (v : ℕ) → v < length lists → (choice : InsertionChoice)
      → In (choices_in model v (route lists v) candidate.class candidate.item) choice → KnownItem v choice
  known room v low choice there =
      let made = (choice-of model lists v candidate.class candidate.item choice there).made in
      let placing : Placing = made.0 in
      let is : item_in placing ≡ candidate.item = made.1 in
      let within : AreWithin (route lists v) placing = made.2 in
      subst (KnownItem v) (sym made.3) (at placing is within)
    where
      at : (placing : Placing) → item_in placing ≡ candidate.item → AreWithin (route lists v) placing
          → KnownItem v (record { placing = placing; class = candidate.class; vehicle = v; increase = increase_of model v (route lists v) placing })
      at placing is within =
          let next : InsertionChoice = record {
            placing = placing;
            class = candidate.class;
            vehicle = v;
            increase = increase_of model v (route lists v) placing;
          } in
          let after = inserted-is v placing (increase_of model v (route lists v) placing) in
          let opens : is_open model (inserted lists (insertion_of next)) ≡ is_route_open model v (placed (route lists v) placing) =
          ap (is_open model) after ∙ local v placing low is within
          ∙ and-true (is_route_open model v (placed (route lists v) placing)) (list_all (has_room marks candidate.item) model.groups) room in
          let cls : candidate.class ≡ class model (item_nodes (item_in placing)) = valid.class ∙ ap (λ item. class model (item_nodes item)) (sym is) in
          let more : increase_of model v (route lists v) placing ≡ increase model lists (insertion_of next) =
          increase-is model v (route lists v) placing within
          ∙ sym (ap (λ list. route_cost model v list -ℤ route_cost model v (route lists v))
          (ap (λ ls. route ls v) after ∙ route_set_same lists v (placed (route lists v) placing) low)) in
          record {
            keyed = λ i. pos (cls i) ∷ more i ∷ tail_key next;
            tested = sym opens;
            good = λ passes. record {
              is_item = subst (IsItem model) (sym is) valid.item;
              inactive = ap (λ item. is_active lists (first_node (item_nodes item))) is ∙ free;
              vehicle = low;
              within = within;
              stays_open = opens ∙ passes;
            };
          }

  -- the best beside the choices in one list
  best-in : list_all (has_room marks candidate.item) model.groups ≡ true → (v : ℕ) → v < length lists
      → (best : Option InsertionChoice) (xs : List Insertion) → IsBestOf model lists best xs
      → IsBestOf model lists (best_in model v (route lists v) candidate best) (xs ++ insertions_in lists (item_nodes candidate.item) v)
  best-in room v low best xs before =
      subst (λ ys. IsBestOf model lists (best_in model v (route lists v) candidate best) (xs ++ ys)) (choices-are model lists v candidate.class candidate.item)
      (IsBest-fold insertion_of (insertion_key model lists) key_of (λ insertion. is_open model (inserted lists insertion))
      (MayBeInserted model lists) (λ next. is_route_open model next.vehicle (placed (route lists v) next.placing))
      best (choices_in model v (route lists v) candidate.class candidate.item) xs before (known room v low))

  -- in lists in turn
  best-in-each : list_all (has_room marks candidate.item) model.groups ≡ true → (vs : List ℕ)
      → ((v : ℕ) → In vs v → v < length lists) → (best : Option InsertionChoice) (xs : List Insertion) → IsBestOf model lists best xs
      → IsBestOf model lists (fold (λ best v. best_in model v (route lists v) candidate best) best vs)
      (xs ++ each vs (insertions_in lists (item_nodes candidate.item)))
  best-in-each room [] low best xs before = subst (IsBestOf model lists best) (sym (append-nil xs)) before
  best-in-each room (v ∷ vs) low best xs before =
      subst (IsBestOf model lists (fold (λ best v. best_in model v (route lists v) candidate best) (best_in model v (route lists v) candidate best) vs))
      (append_assoc xs (insertions_in lists (item_nodes candidate.item) v) (each vs (insertions_in lists (item_nodes candidate.item))))
      (best-in-each room vs (λ w there. low w (inr there)) (best_in model v (route lists v) candidate best)
      (xs ++ insertions_in lists (item_nodes candidate.item) v) (best-in room v (low v (inl refl)) best xs before))

  -- without room no insertion of the item may be made
  no-room : list_all (has_room marks candidate.item) model.groups ≡ false → (insertion : Insertion)
      → In (insertions_of lists (item_nodes candidate.item)) insertion → is_open model (inserted lists insertion) ≡ false
  no-room full insertion there =
      from_each (insertions_in lists (item_nodes candidate.item)) (vehicles lists) insertion there (λ v v_in inner.
      from_map insertion_of (choices_in model v (route lists v) candidate.class candidate.item) insertion
      (subst (λ ys. In ys insertion) (sym (choices-are model lists v candidate.class candidate.item)) inner) (λ choice c_in is.
      let made = (choice-of model lists v candidate.class candidate.item choice c_in).made in
      let placing : Placing = made.0 in
      let low : v < length lists = of_below (length lists) v v_in in
      let next : InsertionChoice = record { placing = placing; class = candidate.class; vehicle = v; increase = increase_of model v (route lists v) placing } in
      let same : insertion ≡ insertion_of next = is ∙ ap insertion_of made.3 in
      ap (λ insertion. is_open model (inserted lists insertion)) same
      ∙ ap (is_open model) (inserted-is v placing (increase_of model v (route lists v) placing))
      ∙ local v placing low made.1 made.2
      ∙ and-false (is_route_open model v (placed (route lists v) placing)) (list_all (has_room marks candidate.item) model.groups) full))

  -- the best beside all insertions of an item that stands in no list
  best-free : (best : Option InsertionChoice) (xs : List Insertion) → IsBestOf model lists best xs
      → is_marked marks (first_node (item_nodes candidate.item)) ≡ false
      → IsBestOf model lists (best_beside model lists marks candidate best) (xs ++ insertions_of lists (item_nodes candidate.item))
  best-free best xs before unmarked = by (list_all (has_room marks candidate.item) model.groups) refl
    where
      counted : (b : Bool) → list_all (has_room marks candidate.item) model.groups ≡ b → may_be_placed model marks candidate ≡ b
      counted b e = ap (λ m. cond m false (list_all (has_room marks candidate.item) model.groups)) unmarked ∙ e

      by : (b : Bool) → list_all (has_room marks candidate.item) model.groups ≡ b
          → IsBestOf model lists (best_beside model lists marks candidate best) (xs ++ insertions_of lists (item_nodes candidate.item))
      by true room =
          subst (λ c. IsBestOf model lists (cond c (best_in_lists model lists candidate (length lists) best) best)
          (xs ++ insertions_of lists (item_nodes candidate.item))) (sym (counted true room))
          (best-in-each room (vehicles lists) (λ v there. of_below (length lists) v there) best xs before)
      by false full =
          subst (λ c. IsBestOf model lists (cond c (best_in_lists model lists candidate (length lists) best) best)
          (xs ++ insertions_of lists (item_nodes candidate.item))) (sym (counted false full))
          (IsBest-failed insertion_of (insertion_key model lists) key_of (λ insertion. is_open model (inserted lists insertion))
          (MayBeInserted model lists) best xs (insertions_of lists (item_nodes candidate.item)) before (no-room full))

-- ---- all candidates

-- the best choice among the insertions of the first candidates
abbrev pub IsBestSoFar : Model → List (List ℕ) → List Candidate → ℕ → Option InsertionChoice → Type 0
IsBestSoFar model lists candidates i best = IsBestOf model lists best (each (seen lists candidates i) (insertions_of lists))

-- the first node of an item is a node
pub first-below : (model : Model) (item : Item) → IsItem model item → first_node (item_nodes item) < model.nodes
first-below model (Visit n) valid = visit_below model n (and_left (is_visit model n) true valid.visits)
first-below model (PickupAndDelivery p d) valid = visit_below model p (and_left (is_visit model p) _ valid.visits)

seen-more : (lists : List (List ℕ)) (candidates : List Candidate) (i : ℕ) (candidate : Candidate)
    → i < length candidates → get_or candidates i candidate ≡ candidate
    → seen lists candidates (i + 1)
    ≡ seen lists candidates i ++ cond (not (is_active lists (first_node (item_nodes candidate.item)))) (item_nodes candidate.item ∷ []) []
seen-more lists candidates i candidate within is =
    let nodes = λ (candidate : Candidate). item_nodes candidate.item in
    let keep = λ (item : List ℕ). not (is_active lists (first_node item)) in
    ap (λ cs. filter keep (map nodes cs)) (take_more candidates i candidate within ∙ ap (λ c. take i candidates ++ c ∷ []) is)
    ∙ ap (filter keep) (map-append nodes (take i candidates) (candidate ∷ []))
    ∙ filter-append keep (map nodes (take i candidates)) (nodes candidate ∷ [])

pub best-begin : (model : Model) (lists : List (List ℕ)) (candidates : List Candidate) → IsBestSoFar model lists candidates 0 None
best-begin model lists candidates =
    IsBest-none insertion_of (insertion_key model lists) key_of (λ insertion. is_open model (inserted lists insertion)) (MayBeInserted model lists)

-- one candidate more
pub best-more : (model : Model) (lists : List (List ℕ)) (marks : List Bool)
    (candidates : List Candidate) (i : ℕ) (candidate : Candidate) (best chosen : Option InsertionChoice)
    → IsWellFormed model → AreBuilt model lists → AreMarks model.nodes lists marks
    → IsCandidate model candidate → i < length candidates → get_or candidates i candidate ≡ candidate
    → IsBestSoFar model lists candidates i best → chosen ≡ best_beside model lists marks candidate best → IsBestSoFar model lists candidates (i + 1) chosen
best-more model lists marks candidates i candidate best chosen well_formed built are valid within is before e = by (is_marked marks number) refl
  where
    number : ℕ
    number = first_node (item_nodes candidate.item)

    active : is_marked marks number ≡ is_active lists number
    active = are.each number false (first-below model candidate.item valid.item)

    by : (b : Bool) → is_marked marks number ≡ b → IsBestSoFar model lists candidates (i + 1) chosen
    by true marked =
        let same : seen lists candidates (i + 1) ≡ seen lists candidates i =
        seen-more lists candidates i candidate within is
        ∙ ap (λ b. seen lists candidates i ++ cond (not b) (item_nodes candidate.item ∷ []) []) (sym active ∙ marked)
        ∙ append-nil (seen lists candidates i) in
        let kept : chosen ≡ best = e ∙ ap
        (λ m. cond (cond m false (list_all (has_room marks candidate.item) model.groups)) (best_in_lists model lists candidate (length lists) best) best)
        marked in
        subst (λ c. IsBestOf model lists c (each (seen lists candidates (i + 1)) (insertions_of lists))) (sym kept)
        (subst (λ items. IsBestOf model lists best (each items (insertions_of lists))) (sym same) before)
    by false marked =
        let free : is_active lists number ≡ false = sym active ∙ marked in
        let longer : seen lists candidates (i + 1) ≡ seen lists candidates i ++ item_nodes candidate.item ∷ [] =
        seen-more lists candidates i candidate within is ∙ ap (λ b. seen lists candidates i ++ cond (not b) (item_nodes candidate.item ∷ []) []) free in
        let all : each (seen lists candidates i) (insertions_of lists) ++ insertions_of lists (item_nodes candidate.item)
        ≡ each (seen lists candidates (i + 1)) (insertions_of lists) =
        ap (λ xs. each (seen lists candidates i) (insertions_of lists) ++ xs) (sym (append-nil (insertions_of lists (item_nodes candidate.item))))
        ∙ sym (flat_map-append (insertions_of lists) (seen lists candidates i) (item_nodes candidate.item ∷ []))
        ∙ sym (ap (λ items. each items (insertions_of lists)) longer) in
        subst (λ c. IsBestOf model lists c (each (seen lists candidates (i + 1)) (insertions_of lists))) (sym e)
        (subst (IsBestOf model lists (best_beside model lists marks candidate best)) all
        (best-free model lists well_formed built marks are candidate valid free best (each (seen lists candidates i) (insertions_of lists)) before marked))

-- after all candidates, where those of them that stand in no list are all items that do
pub best-end : (model : Model) (lists : List (List ℕ)) (candidates : List Candidate) (i : ℕ) (best : Option InsertionChoice)
    → unplaced_of lists candidates ≡ unplaced model lists → length candidates ≤ i
    → IsBestSoFar model lists candidates i best → option_map insertion_of best ≡ next_inserted model lists
best-end model lists candidates i best all high before =
    let whole : seen lists candidates i ≡ unplaced model lists = ap (unplaced_of lists) (take_all i candidates high) ∙ all in
    before.least
    ∙ ap (λ items. least_by (insertion_key model lists) (filter (λ insertion. is_open model (inserted lists insertion)) (each items (insertions_of lists))))
    whole

-- an item whose first node is not marked may be put into each list
pub may_hold-by : (model : Model) (lists : List (List ℕ)) (marks : List Bool) (candidate : Candidate) → AreBuilt model lists
    → AreMarks model.nodes lists marks → IsCandidate model candidate → may_be_placed model marks candidate ≡ true
    → (v : ℕ) → MayHold model (route lists v) candidate.item
may_hold-by model lists marks candidate built are valid counted v =
    MayHold-inactive model lists v candidate.item built valid.item (sym (are.each number false (first-below model candidate.item valid.item))
    ∙ unmarked (is_marked marks number) (list_all (has_room marks candidate.item) model.groups) counted)
  where
    number : ℕ
    number = first_node (item_nodes candidate.item)

    unmarked : (b c : Bool) → cond b false c ≡ true → b ≡ false
    unmarked true c h = absurd (clash false h refl)
    unmarked false c h = refl

-- ---- rebuilt lists

-- no insertion may be made
pub rebuilt-stops : (model : Model) (more : ℕ) (lists : List (List ℕ)) → next_inserted model lists ≡ None → rebuilt model more lists ≡ lists
rebuilt-stops model zero lists e = refl
rebuilt-stops model (suc more) lists e = ap (λ next. elim next [ None ↦ lists | Some insertion ↦ rebuilt model more (inserted lists insertion) ]) e

-- one insertion is made
pub rebuilt-next : (model : Model) (more less : ℕ) (lists : List (List ℕ)) (insertion : Insertion)
    → next_inserted model lists ≡ Some insertion → more ≡ suc less
    → rebuilt model more lists ≡ rebuilt model less (inserted lists insertion)
rebuilt-next model more less lists insertion e count =
    ap (λ n. rebuilt model n lists) count ∙ ap (λ next. elim next [ None ↦ lists | Some insertion ↦ rebuilt model less (inserted lists insertion) ]) e

-- there are as many candidates as items
pub candidates-count : (model : Model) (candidates : List Candidate) → AreCandidates model candidates → length candidates ≡ length (items model)
candidates-count model candidates all = sym (length-map candidates (λ candidate. item_nodes candidate.item)) ∙ ap length all.all

-- the lists after a choice
pub inserted-choice : (lists : List (List ℕ)) (choice : InsertionChoice)
    → inserted lists (insertion_of choice) ≡ with_route lists choice.vehicle (placed (route lists choice.vehicle) choice.placing)
inserted-choice lists choice = by choice.placing
  where
    by : (placing : Placing) → inserted lists (record { item = item_nodes (item_in placing); vehicle = choice.vehicle; places = places_in placing })
        ≡ with_route lists choice.vehicle (placed (route lists choice.vehicle) placing)
    by (One n t) = refl
    by (Two p d s t) = refl
