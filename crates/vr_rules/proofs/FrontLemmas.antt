-- What a vehicle reaches at the end of a list, from what it reaches one visit before.
use Rattle.std.proofs.Common.{◌≡◌, ◌∙◌, ◌+◌, ◌-◌, ◌<◌, ℕ, zero, suc, List, [], ◌∷◌, ◌++◌, Bool, true, false, refl, ap, sym, subst, arith, length, get_or, set}
use Rattle.std.proofs.Common.{take, map, ℤ, inl, inr, append_assoc}
use Rattle.std.specs.Prelude.{◌≤◌, ◌&&◌, ◌||◌, slice_index}
use Rattle.vr_model.specs.routes.Rules.{allows_vehicle, is_route_open, keeps_policy, serves_pair}
use Rattle.vr_rules.specs.RoutesOpen.{is_feasible_in_each}
use Rattle.std.proofs.lemmas.Bool.{cases_lt}
use Rattle.vr_rules.specs.declared.fronts.Front.{Front}
use Rattle.std.specs.List.{list_all}
use Rattle.std.proofs.lemmas.List.Folds.{list_all-append}
use Rattle.vr_model.specs.tables.Tables.{is_visit}
use Rattle.vr_model.specs.deciding.Testing.{and_both, and_left, and_right}
use Rattle.vr_model.proofs.routes.Lists.{visit_below}
use Rattle.vr_model.proofs.schedules.LineArcs.{arcs_of_line}
use Rattle.vr_model.proofs.schedules.LinesSound.{lines_are_sound}
use Rattle.std.proofs.lemmas.List.{append-nil, get_or-set_other, get_or-set_same, length-append, length-set}
use Rattle.vr_spans.specs.declared.runs.Run.{Run}
use Rattle.vr_model.specs.tables.Tables.{breaks_of, dimension_at, vehicle_at, row_of}
use Rattle.vr_model.specs.tables.Numbers.{number_at}
use Rattle.vr_model.specs.tables.WellFormed.{IsWellFormed}
use Rattle.vr_model.specs.routes.Routes.{UsedArc, arcs_from, is_empty}
use Rattle.vr_model.specs.schedules.Lines.{Arc, line, line_arc, stop_allows}
use Rattle.vr_model.specs.schedules.SoundLines.{IsSound}
use Rattle.vr_model.specs.schedules.Schedules.{no_arc}
use Rattle.vr_model.specs.first.Items.{last_node}
use Rattle.vr_model.specs.declared.records.Model.{Model}
use Rattle.vr_model.specs.declared.records.BreakRow.{BreakRow}
use Rattle.vr_steps.specs.declared.hops.Hop.{Hop}
use Rattle.vr_steps.specs.declared.stops.StopName.TheVariants.{Start, End, Visit}
use Rattle.vr_steps.specs.Levels.{AreCrossed, AreLevels, AreStartLevels, IsCrossing}
use Rattle.vr_steps.specs.Arcs.{IsSoundHop}
use Rattle.vr_steps.specs.Lines.{hop_between, hop_of}
use Rattle.vr_steps.specs.Reached.{AreReached, IsAllowedSet, hop_at}
use Rattle.vr_steps.proofs.LawLemmas.{reached_behind_arc, start_is_reached}
use Rattle.vr_reach.specs.Walks.{EndsAt}
use Rattle.vr_rules.specs.Fronts.{tail, AreFronts, AreReachedBehind, AreVisitSets, IsDriven, IsFront, IsFrontOf, IsStopSet}
use Rattle.vr_rules.specs.declared.items.Item.{Item}
use Rattle.vr_rules.specs.declared.items.Item.TheVariants.{Visit as Visited, PickupAndDelivery}
use Rattle.vr_rules.specs.Placing.{item_nodes}
use Rattle.vr_rules.proofs.OpenLemmas.{inner_tell, last_fails}

-- the last of a list, or what stands before it
abbrev pub last_of : ℕ → List ℕ → ℕ
last_of origin [] = origin
last_of origin (n ∷ ns) = last_of n ns

last_from : (n : ℕ) (ns : List ℕ) → last_node (n ∷ ns) ≡ last_of n ns
last_from n [] = refl
last_from n (m ∷ ms) = let e : length (n ∷ m ∷ ms) - 1 ≡ suc (length (m ∷ ms) - 1) = omega arith in ap (slice_index (n ∷ m ∷ ms)) e ∙ last_from m ms

pub tail_is : (model : Model) (v : ℕ) (list : List ℕ) → tail model v list ≡ last_of (vehicle_at model v).start list
tail_is model v [] = refl
tail_is model v (n ∷ ns) = last_from n ns

-- the last of visits is a node
pub last_below : (model : Model) (origin : ℕ) (list : List ℕ) → origin < model.nodes → list_all (is_visit model) list ≡ true → last_of origin list < model.nodes
last_below model origin [] low visits = low
last_below model origin (n ∷ ns) low visits =
    last_below model n ns (visit_below model n (and_left (is_visit model n) _ visits)) (and_right (is_visit model n) _ visits)

-- the visits of two lists, one behind the other
pub visits_before : (model : Model) (xs ys : List ℕ) → list_all (is_visit model) (xs ++ ys) ≡ true → list_all (is_visit model) xs ≡ true
visits_before model xs ys visits = and_left (list_all (is_visit model) xs) _ (sym (list_all-append (is_visit model) xs ys) ∙ visits)

pub visits_after : (model : Model) (xs ys : List ℕ) → list_all (is_visit model) (xs ++ ys) ≡ true → list_all (is_visit model) ys ≡ true
visits_after model xs ys visits = and_right (list_all (is_visit model) xs) _ (sym (list_all-append (is_visit model) xs ys) ∙ visits)

pub visits_taken : (model : Model) (list : List ℕ) (k : ℕ) → list_all (is_visit model) list ≡ true → list_all (is_visit model) (take k list) ≡ true
visits_taken model list zero visits = refl
visits_taken model [] (suc k) visits = refl
visits_taken model (n ∷ ns) (suc k) visits =
    and_both (is_visit model n) _ (and_left (is_visit model n) _ visits) (visits_taken model ns k (and_right (is_visit model n) _ visits))

-- what was made of the entries before a place, and what stays of those behind it
pub moved_more : {A : Type 0} (P : ℕ → A → Type 0) (xs : List A) (n : ℕ) (x : A)
    → n < length xs → ((k : ℕ) (d : A) → k < n → k < length xs → P k (get_or xs k d)) → P n x
    → (k : ℕ) (d : A) → k < n + 1 → k < length (set xs n x) → P k (get_or (set xs n x) k d)
moved_more P xs n x within before new k d low lt = elim (cases_lt k n) [
  | inl earlier ↦ subst (P k) (sym (get_or-set_other xs n k x d (omega (arith, earlier)))) (before k d earlier (omega (arith, earlier, within)))
  | inr at ↦ (let e : n ≡ k = omega (arith, low, at) in subst (λ j. P j (get_or (set xs n x) j d)) e (subst (P n) (sym (get_or-set_same xs n x d within)) new))
]

pub left_behind : {A : Type 0} (P : ℕ → A → Type 0) (xs : List A) (n : ℕ) (x : A) → ((k : ℕ) (d : A) → n ≤ k → k < length xs → P k (get_or xs k d))
    → (k : ℕ) (d : A) → n + 1 ≤ k → k < length (set xs n x) → P k (get_or (set xs n x) k d)
left_behind P xs n x left k d low lt =
    let more = length-set xs n x in
    subst (P k) (sym (get_or-set_other xs n k x d (omega (arith, low)))) (left k d (omega (arith, low)) (omega (arith, lt, more)))

-- the front of a dimension, as code reads it
pub front_at : (model : Model) (v : ℕ) (list : List ℕ) (fronts : List Front) → AreFronts model v list fronts
    → (d : ℕ) (front : Front) → front ≡ get_or fronts d front → d < length fronts → IsFrontOf model d v list front
front_at model v list fronts are d front is lt = subst (IsFrontOf model d v list) (sym is) (are.each d front lt)

-- the last of two lists, one behind the other
pub last_behind : (origin : ℕ) (xs ys : List ℕ) → last_of origin (xs ++ ys) ≡ last_of (last_of origin xs) ys
last_behind origin [] ys = refl
last_behind origin (x ∷ xs) ys = last_behind x xs ys

-- what a visit allows, as code reads it
pub visit_set_at : (model : Model) (d v : ℕ) (sets : List (List Run)) → AreVisitSets model d v sets
    → (node : ℕ) (set : List Run) → set ≡ get_or sets node set → is_visit model node ≡ true → IsStopSet model d v (Visit node) set
visit_set_at model d v sets are node set is visit =
    let low = visit_below model node visit in
    subst (IsStopSet model d v (Visit node)) (sym is) (are.each node set (omega (arith, low, are.one_of_each)) visit)

-- a front may cross an arc to a visit
pub to_visit : (model : Model) (list : List ℕ) (front : Front) → IsFront model list front
    → (levels : List (List Run)) (hop : Hop) (node : ℕ) (set : List Run)
    → AreLevels front.breaks levels → IsSoundHop hop → set ≡ get_or front.visits.items node set
    → is_visit model node ≡ true → IsCrossing levels hop set front.breaks
to_visit model list front is levels hop node set form sound read visit =
    record {
      each_break = is.each_break;
      few_breaks = is.few_breaks;
      form = form;
      arc = sound;
      cumuls = (visit_set_at model front.dimension front.vehicle front.visits.items is.visits node set read visit).cumuls;
    }

-- the last node of an item is that of a list with the item at its end
pub item_last : (origin : ℕ) (list : List ℕ) (item : Item) → last_node (item_nodes item) ≡ last_of origin (list ++ item_nodes item)
item_last origin list (Visited n) = sym (last_behind origin list (n ∷ []))
item_last origin list (PickupAndDelivery p d) = sym (last_behind origin list (p ∷ d ∷ []))

-- the arc behind a list
arc_behind : (f : UsedArc → Arc) (v origin : ℕ) (list : List ℕ) (node : ℕ) (rest : List ℕ) (d : Arc)
    → get_or (map f (arcs_from v origin (list ++ node ∷ rest))) (length list) d ≡ f (record { vehicle = v; origin = last_of origin list; target = node })
arc_behind f v origin [] node rest d = refl
arc_behind f v origin (n ∷ ns) node rest d = arc_behind f v n ns node rest d

-- what the stop behind a list allows
stop_behind : {B : Type 0} (f : ℕ → B) (list : List ℕ) (node : ℕ) (rest : List ℕ) (last d : B)
    → get_or (map f (list ++ node ∷ rest) ++ last ∷ []) (length list) d ≡ f node
stop_behind f [] node rest last d = refl
stop_behind f (n ∷ ns) node rest last d = stop_behind f ns node rest last d

end_behind : {B : Type 0} (f : ℕ → B) (list : List ℕ) (last d : B) → get_or (map f list ++ last ∷ []) (length list) d ≡ last
end_behind f [] last d = refl
end_behind f (n ∷ ns) last d = end_behind f ns last d

module _ (model : Model) (well_formed : IsWellFormed model) (d v : ℕ) (low_d : d < length model.dimensions) (low_v : v < length model.vehicles) where
  pub sound_line : (list : List ℕ) → IsDriven model list → IsSound (line model d v list)
  sound_line list driven = lines_are_sound model well_formed d v low_d low_v list driven.some driven.visits driven.distinct

  -- the levels of the start, whatever comes behind
  pub behind_start : (set : List Run) (levels : List (List Run)) → IsStopSet model d v Start set
      → AreStartLevels set (breaks_of (dimension_at model d) v) levels → AreReachedBehind model d v [] levels
  behind_start set levels is are rest driven =
      start_is_reached (line model d v rest) (sound_line rest driven) set levels (record { exact = is.exact; cumuls = is.cumuls }) are

  module _ (list : List ℕ) (from new : List (List Run)) (hop : Hop) (set : List Run)
      (breaks : List BreakRow) (reached : AreReachedBehind model d v list from)
      (breaks_are : breaks ≡ breaks_of (dimension_at model d) v) (crossed : AreCrossed from hop set breaks new) where
    -- the levels behind an arc, in a line where the arc and the stop behind it are these
    in_line : (whole : List ℕ) → IsDriven model whole → AreReached (line model d v whole) (length list) from → length list < suc (length whole)
        → hop ≡ hop_at (line model d v whole) (length list) → IsAllowedSet (line model d v whole) (suc (length list)) set
        → AreReached (line model d v whole) (suc (length list)) new
    in_line whole driven before few hop_is allowed =
        reached_behind_arc (line model d v whole) (sound_line whole driven) (length list)
        (let n = arcs_of_line model d v whole in omega (arith, few, n)) set from new allowed before
        (subst (λ h. AreCrossed from h set (breaks_of (dimension_at model d) v) new)
        hop_is (subst (λ rows. AreCrossed from hop set rows new) breaks_are crossed))

    -- one visit more
    pub behind_visit : (node : ℕ) → hop ≡ hop_between model d v (last_of (vehicle_at model v).start list) node
        → IsStopSet model d v (Visit node) set → AreReachedBehind model d v (list ++ node ∷ []) new
    behind_visit node hop_is is rest driven =
        let same : (list ++ node ∷ []) ++ rest ≡ list ++ node ∷ rest = append_assoc list (node ∷ []) rest in
        let more : length (list ++ node ∷ []) ≡ suc (length list) = let n = length-append list (node ∷ []) in omega (arith, n) in
        subst (λ k. AreReached (line model d v ((list ++ node ∷ []) ++ rest)) k new) (sym more)
        (subst (λ whole. AreReached (line model d v whole) (suc (length list)) new) (sym same) (there (subst (IsDriven model) same driven)))
      where
        whole : List ℕ
        whole = list ++ node ∷ rest

        stops : (whole ++ (vehicle_at model v).end ∷ []) ≡ list ++ node ∷ (rest ++ (vehicle_at model v).end ∷ [])
        stops = append_assoc list (node ∷ rest) ((vehicle_at model v).end ∷ [])

        arc : get_or (line model d v whole).arcs (length list) no_arc
            ≡ line_arc model d v (record { vehicle = v; origin = last_of (vehicle_at model v).start list; target = node })
        arc = ap (λ nodes. get_or (map (line_arc model d v) (arcs_from v (vehicle_at model v).start nodes)) (length list) no_arc) stops
            ∙ arc_behind (line_arc model d v) v (vehicle_at model v).start list node (rest ++ (vehicle_at model v).end ∷ []) no_arc

        allows : ℕ → ℤ → Bool
        allows n = stop_allows (number_at (dimension_at model d).capacities v) (row_of (dimension_at model d).nodes n)

        last : ℤ → Bool
        last = stop_allows (number_at (dimension_at model d).capacities v) (row_of (dimension_at model d).ends v)

        stop : get_or (line model d v whole).allowed (suc (length list)) (λ _. false) ≡ allows node
        stop = stop_behind allows list node rest last (λ _. false)

        there : IsDriven model whole → AreReached (line model d v whole) (suc (length list)) new
        there driven = in_line whole driven (reached (node ∷ rest) driven) (let n = length-append list (node ∷ rest) in omega (arith, n))
            (hop_is ∙ ap (hop_of (dimension_at model d).slack_max) (sym arc))
            (record { exact = λ x. is.exact x ∙ ap (λ f. f x) (sym stop); cumuls = is.cumuls })

    -- the end
    pub at_end : hop ≡ hop_between model d v (last_of (vehicle_at model v).start list) (vehicle_at model v).end
        → IsStopSet model d v End set → IsDriven model list → EndsAt (line model d v list) breaks new
    at_end hop_is is driven = record {
      sound = sound_line list driven;
      breaks_are = sym breaks_are;
      reached = subst (λ k. AreReached (line model d v list) k new) (sym (arcs_of_line model d v list))
          (in_line list driven
          (subst (λ whole. AreReached (line model d v whole) (length list) from) whole_is (reached [] (subst (IsDriven model) (sym whole_is) driven)))
          (omega arith)
          (hop_is ∙ ap (hop_of (dimension_at model d).slack_max) (sym arc))
          (record { exact = λ x. is.exact x ∙ ap (λ f. f x) (sym stop); cumuls = is.cumuls }));
    }
      where
        whole_is : list ++ [] ≡ list
        whole_is = append-nil list

        arc : get_or (line model d v list).arcs (length list) no_arc
            ≡ line_arc model d v (record { vehicle = v; origin = last_of (vehicle_at model v).start list; target = (vehicle_at model v).end })
        arc = arc_behind (line_arc model d v) v (vehicle_at model v).start list (vehicle_at model v).end [] no_arc

        allows : ℕ → ℤ → Bool
        allows n = stop_allows (number_at (dimension_at model d).capacities v) (row_of (dimension_at model d).nodes n)

        last : ℤ → Bool
        last = stop_allows (number_at (dimension_at model d).capacities v) (row_of (dimension_at model d).ends v)

        stop : get_or (line model d v list).allowed (suc (length list)) (λ _. false) ≡ last
        stop = end_behind allows list last (λ _. false)

-- ---- what an item asks at the end of a list

module _ (model : Model) (v : ℕ) (list nodes : List ℕ) (stands : is_route_open model v list ≡ true) (some : is_empty (list ++ nodes) ≡ false) where
  allowed_so_far : (list : List ℕ) → is_route_open model v list ≡ true → list_all (allows_vehicle model v) list ≡ true
  allowed_so_far [] h = refl
  allowed_so_far (n ∷ ns) h = and_right (keeps_policy model v (n ∷ ns)) _
      (and_right (list_all (serves_pair (n ∷ ns)) model.pairs) _ (and_right (is_feasible_in_each model v (n ∷ ns)) _ h))

  all_parts : is_route_open model v (list ++ nodes)
      ≡ (is_feasible_in_each model v (list ++ nodes)
      && (list_all (serves_pair (list ++ nodes)) model.pairs && (keeps_policy model v (list ++ nodes) && list_all (allows_vehicle model v) nodes)))
  all_parts =
      ap (λ b. b || (is_feasible_in_each model v (list ++ nodes) && (list_all (serves_pair (list ++ nodes)) model.pairs
      && (keeps_policy model v (list ++ nodes) && list_all (allows_vehicle model v) (list ++ nodes))))) some
      ∙ ap (λ b. is_feasible_in_each model v (list ++ nodes)
      && (list_all (serves_pair (list ++ nodes)) model.pairs && (keeps_policy model v (list ++ nodes) && b)))
      (list_all-append (allows_vehicle model v) list nodes ∙ ap (λ b. b && list_all (allows_vehicle model v) nodes) (allowed_so_far list stands))

  pub closed_by_vehicle : list_all (allows_vehicle model v) nodes ≡ false → is_route_open model v (list ++ nodes) ≡ false
  closed_by_vehicle h = all_parts ∙ ap
      (λ b. is_feasible_in_each model v (list ++ nodes) && (list_all (serves_pair (list ++ nodes)) model.pairs && (keeps_policy model v (list ++ nodes) && b)))
      h ∙ last_fails (is_feasible_in_each model v (list ++ nodes)) (list_all (serves_pair (list ++ nodes)) model.pairs) (keeps_policy model v (list ++ nodes))

  pub closed_by_dimension : is_feasible_in_each model v (list ++ nodes) ≡ false → is_route_open model v (list ++ nodes) ≡ false
  closed_by_dimension h = all_parts
      ∙ ap (λ b. b && (list_all (serves_pair (list ++ nodes)) model.pairs && (keeps_policy model v (list ++ nodes) && list_all (allows_vehicle model v) nodes)))
      h

  pub open_by_pairs : list_all (allows_vehicle model v) nodes ≡ true → is_feasible_in_each model v (list ++ nodes) ≡ true
      → is_route_open model v (list ++ nodes) ≡ (list_all (serves_pair (list ++ nodes)) model.pairs && keeps_policy model v (list ++ nodes))
  open_by_pairs h g =
      all_parts ∙ (λ t. g t && (list_all (serves_pair (list ++ nodes)) model.pairs && (keeps_policy model v (list ++ nodes) && h t)))
      ∙ inner_tell (list_all (serves_pair (list ++ nodes)) model.pairs) (keeps_policy model v (list ++ nodes))
