-- The item that is appended next, candidate by candidate, and lists that are filled.
use Rattle.std.proofs.Common.{◌≡◌, ◌∙◌, ◌<◌, ◌≤◌, ◌+◌, ◌++◌, ℕ, zero, suc, List, [], ◌∷◌, Bool, true, false, cond, not, Option, Some, None, refl, ap, sym}
use Rattle.std.proofs.Common.{subst, arith, length, take, get_or, pos}
use Rattle.std.specs.Prelude.{map, filter, ◌&&◌, ◌||◌, ◌==◌, IfSome, fold}
use Rattle.std.specs.Option.{option_map}
use Rattle.std.specs.List.{list_all}
use Rattle.std.proofs.lemmas.List.{append-nil, map-append, take_more, take_all, get_or_default, length-map, take-append-le}
use Rattle.std.proofs.lemmas.List.Elements.{filter-append}
use Rattle.std.proofs.lemmas.List.Sums.{fold-append}
use Rattle.std.proofs.lemmas.List.Folds.{list_all-append, list_any-append}
use Rattle.vr_model.specs.declared.records.Model.{Model}
use Rattle.vr_model.specs.tables.Numbers.{below}
use Rattle.vr_model.specs.tables.Tables.{is_visit, arc_cost}
use Rattle.vr_model.specs.routes.Routes.{route, holds, is_active, is_empty}
use Rattle.vr_model.specs.routes.Rules.{is_open, is_route_open}
use Rattle.vr_model.specs.first.Items.{empty_lists, items, first_node, unplaced}
use Rattle.vr_model.specs.first.Choosing.{better, least_by}
use Rattle.vr_model.specs.first.PathCheapestArc.{appended, append_key, tail_node, next_appended, filled}
use Rattle.vr_model.specs.tables.WellFormed.{IsWellFormed}
use Rattle.vr_model.specs.deciding.Testing.{and_left, and_both}
use Rattle.vr_model.proofs.tables.Tests.{clash}
use Rattle.vr_rules.specs.declared.items.Item.{Item}
use Rattle.vr_rules.specs.declared.items.Item.TheVariants.{Visit, PickupAndDelivery}
use Rattle.vr_rules.specs.declared.items.Candidate.{Candidate}
use Rattle.vr_rules.specs.Placing.{item_nodes, is_marked, AreBuilt, AreMarks, AreCandidates, IsCandidate, IsItem}
use Rattle.vr_model.proofs.tables.Ranges.{below-more}
use Rattle.vr_model.proofs.routes.Lists.{visit_below}
use Rattle.vr_rules.proofs.LocalOpenness.{is_open-local}
use Rattle.vr_rules.proofs.LazyLeast.{IsBest, IsBest-none, IsBest-more}
use Rattle.vr_rules.proofs.PlacingLemmas.{IsAdded, item-inactive, inactive-route, is_distinct-both, fits_beside-marks, built-count, built-visits}
use Rattle.vr_rules.proofs.PlacingLemmas.{built-distinct, AreBuilt-empty}
use Rattle.vr_first_arc.specs.declared.choice.ArcChoice.{ArcChoice}
use Rattle.vr_first_arc.specs.Choices.{all_filled, arc_key, item_of_choice, nodes_of_choice, choice_of, chosen_beside, may_append, MayBeAppended}
use Rattle.vr_rules.specs.Fronts.{tail, IsDriven}

-- one more item is appended
filled-more : (model : Model) (v more : ℕ) (lists : List (List ℕ)) (item : List ℕ) → next_appended model lists v ≡ Some item
    → filled model v (suc more) lists ≡ filled model v more (appended lists v item)
filled-more model v more lists item e = ap (λ next. elim next [ None ↦ lists | Some item ↦ filled model v more (appended lists v item) ]) e

either-way : (a b : Bool) → (a || b) ≡ (b || a)
either-way true true = refl
either-way true false = refl
either-way false true = refl
either-way false false = refl

-- the first node of an item is a node
pub first-below : (model : Model) (item : Item) → IsItem model item → first_node (item_nodes item) < model.nodes
first-below model (Visit n) valid = visit_below model n (and_left (is_visit model n) true valid.visits)
first-below model (PickupAndDelivery p d) valid = visit_below model p (and_left (is_visit model p) _ valid.visits)

-- the unplaced items among the first candidates
abbrev pub seen : List (List ℕ) → List Candidate → ℕ → List (List ℕ)
seen lists candidates i = filter (λ item. not (is_active lists (first_node item))) (map (λ candidate. item_nodes candidate.item) (take i candidates))

-- the best choice among the first candidates
abbrev pub IsBestOf : Model → List (List ℕ) → ℕ → List Candidate → ℕ → Option ArcChoice → Type 0
IsBestOf model lists v candidates i best =
    IsBest nodes_of_choice (append_key model lists v) arc_key (λ item. is_open model (appended lists v item))
    (λ choice. MayBeAppended model lists v choice.item) best (seen lists candidates i)

-- an item whose first node is not marked stands in no list
pub inactive_by : (model : Model) (lists : List (List ℕ)) (marks : List Bool) → AreMarks model.nodes lists marks
    → (item : Item) → IsItem model item → is_marked marks (first_node (item_nodes item)) ≡ false
    → is_active lists (first_node (item_nodes item)) ≡ false
inactive_by model lists marks are item valid free = sym (are.each (first_node (item_nodes item)) false (first-below model item valid)) ∙ free

-- ---- a list with an item at its end

some_behind : (list : List ℕ) (item : Item) → is_empty (list ++ item_nodes item) ≡ false
some_behind [] (Visit n) = refl
some_behind [] (PickupAndDelivery p d) = refl
some_behind (n ∷ ns) item = refl

module _ (model : Model) (lists : List (List ℕ)) (v : ℕ) (built : AreBuilt model lists) (low : v < length lists) where
  pub IsAdded-appended : (item : Item) → IsItem model item → is_active lists (first_node (item_nodes item)) ≡ false
      → IsAdded model lists v (item_nodes item) (route lists v ++ item_nodes item)
  IsAdded-appended item valid first =
      let list : List ℕ = route lists v in
      let nodes : List ℕ = item_nodes item in
      let inactive = item-inactive model lists item valid built.are_open first in
      record {
        vehicle = low;
        nodes_are = λ node. list_any-append (λ y. node == y) list nodes ∙ either-way (holds list node) (holds nodes node);
        visits = list_all-append (is_visit model) list nodes ∙ and_both (list_all (is_visit model) list) _ (built-visits model lists v built) valid.visits;
        distinct = is_distinct-both list nodes (built-distinct model lists v built) valid.distinct (λ x there. by x there (holds nodes x) refl (inactive x));
        inactive = inactive;
      }
    where
      by : (x : ℕ) → holds (route lists v) x ≡ true → (b : Bool) → holds (item_nodes item) x ≡ b
          → (holds (item_nodes item) x ≡ true → is_active lists x ≡ false) → holds (item_nodes item) x ≡ false
      by x there true e none = absurd (clash (holds (route lists v) x) there (inactive-route lists x v (none e)))
      by x there false e none = e

  pub IsDriven-item : (item : Item) → IsItem model item
      → is_active lists (first_node (item_nodes item)) ≡ false → IsDriven model (route lists v ++ item_nodes item)
  IsDriven-item item valid first =
      let added = IsAdded-appended item valid first in
      record { some = some_behind (route lists v) item; visits = added.visits; distinct = added.distinct }

  -- ---- the choice

  module _ (well_formed : IsWellFormed model) (marks : List Bool) (are : AreMarks model.nodes lists marks) where
    -- may an item be appended: code's test is that of the definition
    tested : (item : Item) → IsItem model item → is_active lists (first_node (item_nodes item)) ≡ false
        → may_append model v (route lists v) marks item ≡ is_open model (appended lists v (item_nodes item))
    tested item valid first =
        let list : List ℕ = route lists v ++ item_nodes item in
        ap (λ b. is_route_open model v list && b) (fits_beside-marks model well_formed lists marks item are)
        ∙ sym (is_open-local model lists v list (item_nodes item) built.are_open low (IsAdded-appended item valid first).nodes_are)

    seen-more : (candidates : List Candidate) (i : ℕ) (candidate : Candidate) → i < length candidates → get_or candidates i candidate ≡ candidate
        → seen lists candidates (i + 1)
        ≡ seen lists candidates i ++ cond (not (is_active lists (first_node (item_nodes candidate.item)))) (item_nodes candidate.item ∷ []) []
    seen-more candidates i candidate within is =
        let nodes = λ (candidate : Candidate). item_nodes candidate.item in
        let keep = λ (item : List ℕ). not (is_active lists (first_node item)) in
        ap (λ cs. filter keep (map nodes cs)) (take_more candidates i candidate within ∙ ap (λ c. take i candidates ++ c ∷ []) is)
        ∙ ap (filter keep) (map-append nodes (take i candidates) (candidate ∷ []))
        ∙ filter-append keep (map nodes (take i candidates)) (nodes candidate ∷ [])

    pub best-begin : (candidates : List Candidate) → IsBestOf model lists v candidates 0 None
    best-begin candidates = IsBest-none nodes_of_choice (append_key model lists v) arc_key
        (λ item. is_open model (appended lists v item)) (λ choice. MayBeAppended model lists v choice.item)

    pub best-more : (candidates : List Candidate) (i : ℕ) (candidate : Candidate) (best chosen : Option ArcChoice)
        → i < length candidates → get_or candidates i candidate ≡ candidate
        → IsCandidate model candidate → IsBestOf model lists v candidates i best
        → chosen ≡ chosen_beside model v (route lists v) marks candidate best → IsBestOf model lists v candidates (i + 1) chosen
    best-more candidates i candidate best chosen within is valid before e = by (is_marked marks (first_node (item_nodes candidate.item))) refl
      where
        item : Item
        item = candidate.item

        number : ℕ
        number = first_node (item_nodes candidate.item)

        active : is_marked marks number ≡ is_active lists number
        active = are.each number false (first-below model candidate.item valid.item)

        next : ArcChoice
        next = choice_of model v (tail model v (route lists v)) candidate

        passes : Bool
        passes = may_append model v (route lists v) marks candidate.item

        Best : Option ArcChoice → List (List ℕ) → Type 0
        Best = IsBest nodes_of_choice (append_key model lists v) arc_key
            (λ item. is_open model (appended lists v item)) (λ choice. MayBeAppended model lists v choice.item)

        by : (b : Bool) → is_marked marks number ≡ b → IsBestOf model lists v candidates (i + 1) chosen
        by true marked =
            let same : seen lists candidates (i + 1) ≡ seen lists candidates i =
            seen-more candidates i candidate within is
            ∙ ap (λ b. seen lists candidates i ++ cond (not b) (item_nodes candidate.item ∷ []) []) (sym active ∙ marked)
            ∙ append-nil (seen lists candidates i) in
            let kept : chosen ≡ best = e ∙ ap (λ b. cond b best (cond passes (better arc_key best next) best)) marked in
            subst (λ c. Best c (seen lists candidates (i + 1))) (sym kept) (subst (Best best) (sym same) before)
        by false marked =
            let free : is_active lists number ≡ false = sym active ∙ marked in
            let longer : seen lists candidates (i + 1) ≡ seen lists candidates i ++ item_nodes candidate.item ∷ [] =
            seen-more candidates i candidate within is ∙ ap (λ b. seen lists candidates i ++ cond (not b) (item_nodes candidate.item ∷ []) []) free in
            let decided : chosen ≡ cond passes (better arc_key best next) best = e
            ∙ ap (λ b. cond b best (cond passes (better arc_key best next) best)) marked in
            let test = tested candidate.item valid.item free in
            let keyed : arc_key next ≡ append_key model lists v (item_nodes candidate.item) =
            ap (λ k. pos k ∷ arc_cost model v (tail_node model lists v) number ∷ pos number ∷ []) valid.class in
            let more = IsBest-more nodes_of_choice (append_key model lists v) arc_key
            (λ item. is_open model (appended lists v item)) (λ choice. MayBeAppended model lists v choice.item)
            best next (seen lists candidates i) passes before keyed test (λ t. record { is_item = valid.item; inactive = free; stays_open = sym test ∙ t }) in
            subst (λ c. Best c (seen lists candidates (i + 1))) (sym decided) (subst (Best (cond passes (better arc_key best next) best)) (sym longer) more)

    -- after all candidates
    pub best-end : (candidates : List Candidate) (i : ℕ) (best : Option ArcChoice)
        → AreCandidates model candidates → length candidates ≤ i → IsBestOf model lists v candidates i best
        → option_map item_nodes (option_map item_of_choice best) ≡ next_appended model lists v
    best-end candidates i best all high before =
        let whole : seen lists candidates i ≡ unplaced model lists =
        ap (λ cs. filter (λ item. not (is_active lists (first_node item))) (map (λ candidate. item_nodes candidate.item) cs)) (take_all i candidates high)
        ∙ ap (filter (λ item. not (is_active lists (first_node item)))) all.all in
        images best ∙ before.least ∙ ap (λ xs. least_by (append_key model lists v) (filter (λ item. is_open model (appended lists v item)) xs)) whole
      where
        images : (best : Option ArcChoice) → option_map item_nodes (option_map item_of_choice best) ≡ option_map nodes_of_choice best
        images None = refl
        images (Some choice) = refl

pub may-of-best : (P : Item → Type 0) (best : Option ArcChoice) → IfSome best (λ choice. P choice.item) → IfSome (option_map item_of_choice best) P
may-of-best P None h = h
may-of-best P (Some choice) h = h

-- ---- filled lists

-- no item may be appended
pub filled-stops : (model : Model) (v more : ℕ) (lists : List (List ℕ)) → next_appended model lists v ≡ None → filled model v more lists ≡ lists
filled-stops model v zero lists e = refl
filled-stops model v (suc more) lists e = ap (λ next. elim next [ None ↦ lists | Some item ↦ filled model v more (appended lists v item) ]) e

-- one item is appended
pub filled-next : (model : Model) (v more less : ℕ) (lists : List (List ℕ)) (item : List ℕ) → next_appended model lists v ≡ Some item → more ≡ suc less
    → filled model v more lists ≡ filled model v less (appended lists v item)
filled-next model v more less lists item e count = ap (λ n. filled model v n lists) count ∙ filled-more model v less lists item e

-- the list that code reads at a place
pub list_at : (lists : List (List ℕ)) (v : ℕ) (list read : List ℕ) → list ≡ read → read ≡ get_or lists v read → v < length lists → list ≡ route lists v
list_at lists v list read same is low = same ∙ is ∙ get_or_default lists v read [] low

-- there are as many candidates as items
pub candidates-count : (model : Model) (candidates : List Candidate) → AreCandidates model candidates → length candidates ≡ length (items model)
candidates-count model candidates all = sym (length-map candidates (λ candidate. item_nodes candidate.item)) ∙ ap length all.all

-- one vehicle more
pub all_filled-more : (model : Model) (v : ℕ) (lists : List (List ℕ))
    → all_filled model (v + 1) lists ≡ filled model v (length (items model)) (all_filled model v lists)
all_filled-more model v lists =
    let Fill = λ (lists : List (List ℕ)) (v : ℕ). filled model v (length (items model)) lists in
    ap (fold Fill lists) (below-more v) ∙ fold-append Fill lists (below v) (v ∷ [])

-- what a slice of a whole vector was changed to
pub whole-slice : {A : Type 0} (n : ℕ) (written rest : List A) → length written ≡ n → take n (written ++ rest) ≡ written
whole-slice n written rest e = take-append-le n written rest (omega (arith, e)) ∙ take_all n written (omega (arith, e))

-- the same where empty lists were filled
pub whole-lists : (model : Model) (n : ℕ) (begun written rest : List (List ℕ)) → begun ≡ empty_lists model
    → length begun ≡ n → AreBuilt model written → take n (written ++ rest) ≡ written
whole-lists model n begun written rest empty many built =
    whole-slice n written rest
    (built-count model written built ∙ sym (built-count model begun (subst (AreBuilt model) (sym empty) (AreBuilt-empty model))) ∙ many)
