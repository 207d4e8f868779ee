-- What a round leaves as it is: the penalised arc costs that moves make of other vehicles than those of raised arcs.
use Rattle.std.proofs.Common.{◌≡◌, ◌≢◌, ◌∙◌, ◌⊎◌, ◌++◌, ℕ, suc, ◌+◌, ◌<◌, ◌≤◌, Bool, true, false, cond, List, [], ◌∷◌, length, length-set, refl, sym, ap, ap₂}
use Rattle.std.proofs.Common.{subst, arith, inl, inr, nat_lt}
use Rattle.std.specs.Prelude.{IsTrue, ◌&&◌, ◌||◌, ◌==◌, ℤ, pos, ◌+ℤ◌, ◌-ℤ◌, ◌*ℤ◌, int_lt, slice_set}
use Rattle.std.specs.List.{concat, list_all, list_any}
use Rattle.std.proofs.lemmas.Bool.{cases_lt}
use Rattle.std.proofs.lemmas.Int.{ints}
use Rattle.std.proofs.lemmas.List.{get_or_past}
use Rattle.std.proofs.lemmas.List.Folds.{list_any_at}
use Rattle.vr_model.specs.deciding.Testing.{and_left, and_right, eq_of_test, or_left, or_right, test_of_eq}
use Rattle.vr_model.specs.tables.Numbers.{below, total_by}
use Rattle.vr_model.specs.tables.Tables.{arc_cost, is_terminal, is_visit, no_vehicle, vehicle_at}
use Rattle.vr_model.specs.tables.WellFormed.{IsWellFormed}
use Rattle.vr_model.specs.routes.Routes.{UsedArc, arcs_from, arcs_of, are_lists, holds, is_distinct, route}
use Rattle.vr_model.specs.routes.Rules.{is_valid}
use Rattle.vr_model.specs.moves.Moves.{apply}
use Rattle.vr_model.specs.moves.MoveTests.{is_move}
use Rattle.vr_model.specs.search.GuidedSearches.{Penalties}
use Rattle.vr_model.specs.declared.records.Model.{Model}
use Rattle.vr_model.specs.declared.search.Lambda.{Lambda}
use Rattle.vr_model.specs.declared.neighbours.Move.{Move}
use Rattle.vr_model.proofs.tables.Tests.{clash, fails, fails_not}
use Rattle.vr_model.proofs.tables.Totals.{sum_same, total_by-less}
use Rattle.vr_model.proofs.routes.Lists.{are-lists, are_lists-count, route-visits, route_set_other}
use Rattle.vr_model.proofs.moves.KeptLists.{as_many, few, moves_keep_lists}
use Rattle.vr_model.proofs.moves.Times.{held_times, joined_times, times, times_in, times_of_distinct, times_set}
use Rattle.vr_routes.specs.Judging.{cost_change}
use Rattle.vr_model.specs.declared.neighbours.Neighbourhood.{Neighbourhood}
use Rattle.vr_model.specs.moves.Kinds.{kind_of}
use Rattle.vr_known.specs.Blocks.{AreSettled, Memory, first_of, is_known, is_later, second_of}
use Rattle.vr_known.proofs.Applied.{same_or_not}
use Rattle.vr_known.proofs.Local.{has_source, others_stay}
use Rattle.vr_known.proofs.MemoryLemmas.{later_known, later_source}
use Rattle.vr_descent.specs.Refused.{AreRefused}
use Rattle.vr_guided.specs.Guides.{makes_less, penalised_change}
use Rattle.vr_guided.specs.Sparing.{AreSpared, SparesKnown, StandsNowhereElse}
use Rattle.vr_guided.specs.Walks.{route_weight, arc_weight}
use Rattle.vr_guided.specs.Worths.{increased, is_no_more, leads, raised_in_turn, raised_once, worth_of}
use Rattle.vr_guided.specs.declared.worths.Worth.{Worth}
use Rattle.vr_guided.proofs.GuideLemmas.{makes_less_where}
use Rattle.vr_guided.proofs.PartLemmas.{sums}

-- ---- arcs of a list lead to or from its nodes

swapped : (x y : ℕ) → (x == y) ≡ false → (y == x) ≡ false
swapped x y e = fails (y == x) (λ h. clash (x == y) (test_of_eq x y (sym (eq_of_test y x h))) e)

pub or_first : (a b : Bool) → (a || b) ≡ false → a ≡ false
or_first false b e = refl
or_first true b e = e

pub or_second : (a b : Bool) → (a || b) ≡ false → b ≡ false
or_second false b e = e
or_second true b e = absurd (clash true refl e)

no_target : (a b : Bool) → b ≡ false → (a && b) ≡ false
no_target true b e = e
no_target false b e = refl

module _ (v origin target last : ℕ) where
  -- no arc leads from a node that is not among those from which they lead
  none_from : (at : ℕ) (nodes : List ℕ) → (at == origin) ≡ false → holds nodes origin ≡ false
      → list_any (leads origin target) (arcs_from v at (nodes ++ last ∷ [])) ≡ false
  none_from at [] first others = ap (λ b. (b && (last == target)) || false) first
  none_from at (node ∷ nodes) first others =
      ap (λ b. (b && (node == target)) || list_any (leads origin target) (arcs_from v node (nodes ++ last ∷ []))) first
      ∙ none_from node nodes (swapped origin node (or_first (origin == node) _ others)) (or_second (origin == node) _ others)

-- an arc of a list has a node of it at one end
pub none_leads : (model : Model) (v : ℕ) (list : List ℕ) (origin target : ℕ) → holds list origin ≡ false
    → holds list target ≡ false → list_any (leads origin target) (arcs_of model v list) ≡ false
none_leads model v [] origin target from to = refl
none_leads model v (node ∷ nodes) origin target from to =
    ap (λ b. b || list_any (leads origin target) (arcs_from v node (nodes ++ (vehicle_at model v).end ∷ [])))
    (no_target ((vehicle_at model v).start == origin) (node == target) (swapped target node (or_first (target == node) _ to)))
    ∙ none_from v origin target (vehicle_at model v).end node nodes (swapped origin node (or_first (origin == node) _ from)) (or_second (origin == node) _ from)

-- raising arcs leaves the pairs of nodes to which none of them leads
module _ (model : Model) (best : Worth) (origin target : ℕ) where
  once_left : (p : Penalties) (arc : UsedArc) → leads origin target arc ≡ false → raised_once model best p arc origin target ≡ p origin target
  once_left p arc none = go (is_no_more best (worth_of model p arc))
    where
      go : (n : Bool) → cond n (increased p arc) p origin target ≡ p origin target
      go true = ap (λ b. cond b (suc (p origin target)) (p origin target)) none
      go false = refl

  pub left_as_is : (p : Penalties) (arcs : List UsedArc) → list_any (leads origin target) arcs ≡ false
      → raised_in_turn model best p arcs origin target ≡ p origin target
  left_as_is p [] none = refl
  left_as_is p (arc ∷ arcs) none =
      left_as_is (raised_once model best p arc) arcs (or_second (leads origin target arc) _ none)
      ∙ once_left p arc (or_first (leads origin target arc) _ none)

-- ---- a round, vehicle by vehicle

held_false : (list : List ℕ) (node : ℕ) → (IsTrue (holds list node) → ⊥) → holds list node ≡ false
held_false list node none = fails (holds list node) none

-- the arcs of a vehicle were raised, which changed since any move was refused
pub spares_more : (model : Model) (best : Worth) (lists : List (List ℕ)) (v : ℕ) (first old new : Penalties) (before after : Memory)
    → new ≡ raised_in_turn model best old (arcs_of model v (route lists v))
    → ((k : Neighbourhood) (r u : ℕ) → IsTrue (is_later after k r u) → IsTrue (is_later before k r u))
    → ((k : Neighbourhood) (r : ℕ) → is_later after k r v ≡ false)
    → SparesKnown lists first old before → SparesKnown lists first new after
spares_more model best lists v first old new before after raises earlier changes spares kind row u w one two origin target from to =
    let not_first : v ≢ u = λ e. clash (is_later after kind row v) (subst (λ x. IsTrue (is_later after kind row x)) (sym e) one) (changes kind row) in
    let not_second : v ≢ w = λ e. clash (is_later after kind row v) (subst (λ x. IsTrue (is_later after kind row x)) (sym e) two) (changes kind row) in
    ap (λ p. p origin target) raises
    ∙ left_as_is model best origin target old (arcs_of model v (route lists v)) (none_leads model v (route lists v) origin target
    (held_false (route lists v) origin (from v not_first not_second)) (held_false (route lists v) target (to v not_first not_second)))
    ∙ spares kind row u w (earlier kind row u one) (earlier kind row w two) origin target from to

-- nothing of the vehicle was raised
pub spares_same : (lists : List (List ℕ)) (first old new : Penalties) (memory : Memory)
    → new ≡ old → SparesKnown lists first old memory → SparesKnown lists first new memory
spares_same lists first old new memory same spares kind row u w one two origin target from to =
    ap (λ p. p origin target) same ∙ spares kind row u w one two origin target from to

-- ---- nodes of two lists

module _ (x : ℕ) (lists : List (List ℕ)) (v w : ℕ) (low : v < length lists) (low_w : w < length lists) (apart : w ≢ v) where
  both_times : times x (route lists v) + times x (route lists w) ≤ times_in x lists
  both_times =
      let first : List (List ℕ) = slice_set lists v [] in
      let one = times_set x lists v [] low in
      let low_first : w < length first = let l = length-set lists v [] in omega (arith, low_w, l) in
      let two = times_set x first w [] low_first in
      let same : times x (route first w) ≡ times x (route lists w) = ap (times x) (route_set_other lists v w [] apart) in
      omega (arith, one, two, same)

-- a node stands in one list alone
once_only : (model : Model) (lists : List (List ℕ)) → are_lists model lists ≡ true → (x v w : ℕ)
    → v < length lists → w ≢ v → IsTrue (holds (route lists v) x) → IsTrue (holds (route lists w) x) → ⊥
once_only model lists are x v w low apart here there = elim (cases_lt w (length lists)) [
  | inl low_w ↦ (
      let distinct : IsTrue (is_distinct (concat lists)) = and_right (list_all (is_visit model) (concat lists))
      _ (and_right (length lists == length model.vehicles) _ are) in
      let few = times_of_distinct (concat lists) distinct x in
      let all = joined_times x lists in
      let both = both_times x lists v w low low_w apart in
      let one = held_times x (route lists v) here in
      let two = held_times x (route lists w) there in
      omega (arith, few, all, both, one, two))
  | inr past ↦ clash (holds [] x) (subst (λ l. IsTrue (holds l x)) (get_or_past lists w [] past) there) refl
]

-- a terminal stands in no list
held_visit : (model : Model) (list : List ℕ) (x : ℕ) → IsTrue (list_all (is_visit model) list) → IsTrue (holds list x) → IsTrue (is_visit model x)
held_visit model [] x all h = absurd (clash false h refl)
held_visit model (y ∷ ys) x all h = by (held_visit model ys x (and_right (is_visit model y) _ all)) (x == y) refl h
  where
    by : (IsTrue (holds ys x) → IsTrue (is_visit model x)) → (b : Bool) → (x == y) ≡ b → IsTrue (b || holds ys x) → IsTrue (is_visit model x)
    by later true e g = ap (is_visit model) (eq_of_test x y e) ∙ and_left (is_visit model y) _ all
    by later false e g = later g

terminal_nowhere : (model : Model) (lists : List (List ℕ)) → are_lists model lists ≡ true
    → (x : ℕ) → is_terminal model x ≡ true → (u w : ℕ) → StandsNowhereElse lists u w x
terminal_nowhere model lists are x ends u w v _ _ there =
    clash (is_terminal model x) ends
    (fails_not (is_terminal model x) (and_right (nat_lt x model.nodes) _ (held_visit model (route lists v) x (route-visits model lists v are) there)))

module _ (model : Model) (v : ℕ) (low : v < length model.vehicles) where
  start_ends : is_terminal model (vehicle_at model v).start ≡ true
  start_ends =
      list_any_at (λ vehicle. (vehicle.start == (vehicle_at model v).start) || (vehicle.end == (vehicle_at model v).start)) model.vehicles v no_vehicle low
      (or_left ((vehicle_at model v).start == (vehicle_at model v).start) _ (test_of_eq _ _ refl))

  end_ends : is_terminal model (vehicle_at model v).end ≡ true
  end_ends = list_any_at (λ vehicle. (vehicle.start == (vehicle_at model v).end) || (vehicle.end == (vehicle_at model v).end)) model.vehicles v no_vehicle low
      (or_right ((vehicle_at model v).start == (vehicle_at model v).end) _ (test_of_eq (vehicle_at model v).end (vehicle_at model v).end refl))

-- ---- sums along arcs between nodes of a kind

module _ (model : Model) (p q : Penalties) (Meant : ℕ → Type 0)
    (same : (origin target : ℕ) → Meant origin → Meant target → q origin target ≡ p origin target) (v last : ℕ) where
  same_weight : (at node : ℕ) → Meant at → Meant node
      → arc_weight model q (record { vehicle = v; origin = at; target = node }) ≡ arc_weight model p (record { vehicle = v; origin = at; target = node })
  same_weight at node a b = ap (λ n. pos n *ℤ arc_cost model v at node) (same at node a b)

  same_from : (at : ℕ) (nodes : List ℕ) → Meant at → Meant last → ((x : ℕ) → IsTrue (holds nodes x) → Meant x)
      → total_by (arc_weight model q) (arcs_from v at (nodes ++ last ∷ [])) ≡ total_by (arc_weight model p) (arcs_from v at (nodes ++ last ∷ []))
  same_from at [] here ends each = ap (λ x. x +ℤ pos 0) (same_weight at last here ends)
  same_from at (node ∷ nodes) here ends each =
      let next = each node (or_left (node == node) _ (test_of_eq node node refl)) in
      ap₂ (λ x y. x +ℤ y) (same_weight at node here next) (same_from node nodes next ends (λ x h. each x (or_right (x == node) _ h)))

  same_route : (list : List ℕ) → (vehicle_at model v).end ≡ last → Meant (vehicle_at model v).start → Meant last
      → ((x : ℕ) → IsTrue (holds list x) → Meant x) → route_weight model q v list ≡ route_weight model p v list
  same_route [] is here ends each = refl
  same_route (node ∷ nodes) is here ends each =
      ap (λ l. total_by (arc_weight model q) (arcs_from v (vehicle_at model v).start ((node ∷ nodes) ++ l ∷ []))) is
      ∙ same_from (vehicle_at model v).start (node ∷ nodes) here ends each
      ∙ ap (λ l. total_by (arc_weight model p) (arcs_from v (vehicle_at model v).start ((node ∷ nodes) ++ l ∷ []))) (sym is)

-- ---- a move of two vehicles

nothing_less : (x y : ℤ) → x -ℤ x ≡ y -ℤ y
nothing_less x y = omega (arith, ints)

module _ (model : Model) (well : IsWellFormed model) (lists : List (List ℕ))
    (valid : IsTrue (is_valid model lists)) (m : Move) (one : IsTrue (is_move model lists m))
    (source : ℕ) (stay : (u : ℕ) → u ≢ source → u ≢ second_of m → route (apply model lists m) u ≡ route lists u)
    (p q : Penalties) (spared : AreSpared lists p q source (second_of m)) where
  abbrev after : List (List ℕ)
  after = apply model lists m

  abbrev Meant : ℕ → Type 0
  Meant = StandsNowhereElse lists source (second_of m)

  are : are_lists model lists ≡ true
  are = are-lists model lists valid

  are_after : are_lists model after ≡ true
  are_after = moves_keep_lists model well lists m are one

  many : length after ≡ length lists
  many = as_many model lists m

  -- what the move adds for a vehicle
  abbrev added : Penalties → ℕ → ℤ
  added r v = route_weight model r v (route after v) -ℤ route_weight model r v (route lists v)

  module _ (v : ℕ) (low : v < length lists) where
    vehicle_low : v < length model.vehicles
    vehicle_low = let n = are_lists-count model lists are in omega (arith, n, low)

    start_meant : Meant (vehicle_at model v).start
    start_meant = terminal_nowhere model lists are (vehicle_at model v).start (start_ends model v vehicle_low) source (second_of m)

    end_meant : Meant (vehicle_at model v).end
    end_meant = terminal_nowhere model lists are (vehicle_at model v).end (end_ends model v vehicle_low) source (second_of m)

    weighs_same : (list : List ℕ) → ((x : ℕ) → IsTrue (holds list x) → Meant x) → route_weight model q v list ≡ route_weight model p v list
    weighs_same list each = same_route model p q Meant spared v (vehicle_at model v).end list refl start_meant end_meant each

    -- the list of a vehicle of the move, before and after it
    named : (v ≡ source) ⊎ (v ≡ second_of m) → added q v ≡ added p v
    named here =
        let off : (w : ℕ) → w ≢ source → w ≢ second_of m → w ≢ v = λ w f g e. elim here [ inl is ↦ f (e ∙ is) | inr is ↦ g (e ∙ is) ] in
        ap₂ (λ x y. x -ℤ y)
        (weighs_same (route after v) (λ x held w f g there. once_only model after are_after x v w (omega (arith, low, many)) (off w f g) held
        (subst (λ l. IsTrue (holds l x)) (sym (stay w f g)) there)))
        (weighs_same (route lists v) (λ x held w f g there. once_only model lists are x v w low (off w f g) held there))

    added_same : added q v ≡ added p v
    added_same = elim (same_or_not v source) [
      | inl here ↦ named (inl here)
      | inr apart ↦ elim (same_or_not v (second_of m)) [
        | inl here ↦ named (inr here)
        | inr too ↦ (
            let same = stay v apart too in
            ap (λ l. route_weight model q v l -ℤ route_weight model q v (route lists v)) same
            ∙ nothing_less (route_weight model q v (route lists v)) (route_weight model p v (route lists v))
            ∙ ap (λ l. route_weight model p v l -ℤ route_weight model p v (route lists v)) (sym same))
      ]
    ]

  change_as_added : (r : Penalties) → penalised_change model r lists m ≡ total_by (added r) (below (length lists))
  change_as_added r =
      ap₂ (λ x y. x -ℤ y) (sums model r after ∙ ap (λ n. total_by (λ v. route_weight model r v (route after v)) (below n)) many) (sums model r lists)
      ∙ sym (total_by-less (λ v. route_weight model r v (route after v)) (λ v. route_weight model r v (route lists v)) (below (length lists)))

  -- what the move makes of the penalised arc costs is the same
  change_same : penalised_change model q lists m ≡ penalised_change model p lists m
  change_same = change_as_added q ∙ sum_same (added q) (added p) 0 (length lists) (λ v _ high. added_same v (omega (arith, high))) ∙ sym (change_as_added p)

  less_same : (lambda : Lambda) → makes_less model lambda q lists m (cost_change model lists m) ≡ makes_less model lambda p lists m (cost_change model lists m)
  less_same lambda =
      sym (makes_less_where model lambda q lists m (cost_change model lists m) (penalised_change model q lists m) refl refl)
      ∙ ap (λ x. int_lt ((lambda.q *ℤ cost_change model lists m) +ℤ (lambda.p *ℤ x)) (pos 0)) change_same
      ∙ makes_less_where model lambda p lists m (cost_change model lists m) (penalised_change model p lists m) refl refl

-- what is known still after a round is refused still
pub still_refused : (model : Model) → IsWellFormed model
    → (lambda : Lambda) (p q : Penalties) (lists : List (List ℕ)) → IsTrue (is_valid model lists) → (old new : Memory)
    → ((k : Neighbourhood) (u w : ℕ) → IsTrue (is_known new k u w) → IsTrue (is_known old k u w)) → SparesKnown lists p q new → AreSettled model lists new
    → AreRefused model (makes_less model lambda p) lists old → AreRefused model (makes_less model lambda q) lists new
still_refused model well lambda p q lists valid old new fewer spares settled refused m one covered =
    let once = few model lists (are-lists model lists valid) in
    let at = has_source model lists once m one in
    let spared = spares (kind_of m) (first_of m) at.0 (second_of m) (later_source model lists new settled m one covered at.0 at.1)
    (later_known new (kind_of m) (first_of m) (second_of m) covered) in
    ap (λ b. is_valid model (apply model lists m) && b)
    (less_same model well lists valid m one at.0 (others_stay model lists once m one at.0 at.1) p q spared lambda)
    ∙ refused m one (fewer (kind_of m) (first_of m) (second_of m) covered)
