-- The numbers of groups, and how many nodes of each are active.
use Rattle.std.proofs.Common.{◌≡◌, ◌∙◌, ℕ, zero, suc, ◌+◌, ◌<◌, ◌≤◌, Bool, true, false, cond, not, List, [], ◌∷◌, length, refl, sym, ap, subst, arith}
use Rattle.std.specs.Prelude.{◌==◌, ◌||◌, IsTrue, filter, count_by, slice_index_or}
use Rattle.std.specs.List.{list_any, position_or_len, range_with_len}
use Rattle.std.proofs.Math.Dec.{eqb-zero-suc}
use Rattle.vr_model.specs.deciding.Testing.{eq_of_test, test_of_eq}
use Rattle.vr_model.specs.tables.Numbers.{below, each}
use Rattle.vr_model.specs.tables.Tables.{is_visit, visits}
use Rattle.vr_model.specs.tables.WellFormed.{IsWellFormed}
use Rattle.vr_model.specs.routes.Routes.{holds, is_active}
use Rattle.vr_model.specs.routes.Rules.{active_in, is_grouped}
use Rattle.vr_model.specs.declared.records.Model.{Model}
use Rattle.vr_model.specs.declared.records.Group.{Group}
use Rattle.vr_model.proofs.tables.Tests.{clash, same_tests, apart}
use Rattle.vr_model.proofs.moves.Times.{hit, times, held_times, times_of_distinct}
use Rattle.vr_model.proofs.routes.Lists.{visit_below}
use Rattle.vr_routes.proofs.TourLemmas.{visit_held, visit_test}
use Rattle.vr_routes.specs.Tours.{Tours}
use Rattle.vr_balance.specs.Balances.{over_lists}
use Rattle.vr_balance.proofs.ActiveLemmas.{active-count, over-active, times-held}
use Rattle.vr_lists.specs.Nodes.{group_number, group_at, no_group, node_number, AreNumbers}
use Rattle.vr_lists.proofs.GroupLemmas.{group-times, nodes_in, times-cons}
use Rattle.vr_pathfilters.specs.Groups.{one_in_group}
use Rattle.vr_pathfilters.specs.TourLists.{AreTours}

-- ---- how often a node stands

hit-none : (y x : ℕ) → (y ≡ x → ⊥) → hit y x ≡ 0
hit-none y x other = ap (λ b. cond b 1 0) (apart y x other)

times-filter : (p : ℕ → Bool) (xs : List ℕ) (y : ℕ) → times y (filter p xs) ≡ cond (p y) (times y xs) 0
times-filter p [] y = by (p y)
  where
    by : (b : Bool) → times y [] ≡ cond b (times y []) 0
    by true = refl
    by false = refl
times-filter p (x ∷ xs) y = by (p x) (p y) refl refl (times-filter p xs y)
  where
    by : (b c : Bool) → p x ≡ b → p y ≡ c → times y (filter p xs) ≡ cond c (times y xs) 0
        → times y (cond b (x ∷ filter p xs) (filter p xs)) ≡ cond c (hit y x + times y xs) 0
    by true true e f rest = ap (λ n. hit y x + n) rest
    by false false e f rest = rest
    by true false e f rest = let none = hit-none y x (λ same. clash (p y) (ap p same ∙ e) f) in omega (arith, none, rest)
    by false true e f rest = let none = hit-none y x (λ same. clash (p y) f (ap p same ∙ e)) in omega (arith, none, rest)

times-above : (y a n : ℕ) → y < a → times y (range_with_len a n) ≡ 0
times-above y a zero low = refl
times-above y a (suc n) low =
    let here = hit-none y a (λ same. omega (arith, same, low)) in
    let rest = times-above y (a + 1) n (omega (arith, low)) in
    omega (arith, here, rest)

times-range : (y a n : ℕ) → times y (range_with_len a n) ≤ 1
times-range y a zero = omega arith
times-range y a (suc n) = by (y == a) refl (times-range y (a + 1) n)
  where
    by : (b : Bool) → (y == a) ≡ b → times y (range_with_len (a + 1) n) ≤ 1 → cond b 1 0 + times y (range_with_len (a + 1) n) ≤ 1
    by true e few = let same = eq_of_test y a e in let none = times-above y (a + 1) n (omega (arith, same)) in omega (arith, none)
    by false e few = omega (arith, few)

-- a visit stands once among the visits
visit-once : (model : Model) (y : ℕ) → IsTrue (is_visit model y) → times y (visits model) ≡ 1
visit-once model y h =
    let one = held_times y (visits model) (visit_held model y h) in
    let all = times-range y 0 model.nodes in
    let kept = times-filter (is_visit model) (below model.nodes) y ∙ ap (λ b. cond b (times y (below model.nodes)) 0) h in
    omega (arith, one, all, kept)

-- ---- the number of the group of a node

shifted : (p h : ℕ) → ((1 + p) == suc h) ≡ (p == h)
shifted p h = same_tests ((1 + p) == suc h) (p == h)
    (λ t. test_of_eq p h (let e = eq_of_test (1 + p) (suc h) t in omega (arith, e)))
    (λ t. test_of_eq (1 + p) (suc h) (let e = eq_of_test p h t in omega (arith, e)))

-- a node has the number of the group that it stands in
number-times : (groups : List Group) (y g : ℕ) → times y (each groups nodes_in) ≤ 1 → g < length groups
    → cond (position_or_len (λ q. holds q.nodes y) groups == g) 1 0 ≡ times y (slice_index_or groups g no_group).nodes
number-times [] y g few low = absurd (omega (arith, low))
number-times (q ∷ qs) y g few low = by (holds q.nodes y) refl g low (λ h less. number-times qs y h (omega (arith, few, all)) less)
  where
    place : ℕ
    place = position_or_len (λ q. holds q.nodes y) qs

    all : times y (each (q ∷ qs) nodes_in) ≡ times y q.nodes + times y (each qs nodes_in)
    all = times-cons q qs y

    here : cond (holds q.nodes y) 1 0 ≡ times y q.nodes
    here = times-held q.nodes y (omega (arith, few, all))

    by : (b : Bool) → holds q.nodes y ≡ b → (g : ℕ) → g < suc (length qs)
        → ((h : ℕ) → h < length qs → cond (position_or_len (λ q. holds q.nodes y) qs == h) 1 0 ≡ times y (slice_index_or qs h no_group).nodes)
        → cond (cond (not b) (1 + position_or_len (λ q. holds q.nodes y) qs) 0 == g) 1 0 ≡ times y (slice_index_or (q ∷ qs) g no_group).nodes
    by true e zero low later = sym (ap (λ b. cond b 1 0) e) ∙ here
    by true e (suc h) low later =
        let one : 1 ≡ times y q.nodes = sym (ap (λ b. cond b 1 0) e) ∙ here in
        let some = group-times qs y h in
        let zero_is : 0 ≡ times y (slice_index_or qs h no_group).nodes = omega (arith, one, some, few, all) in
        ap (λ b. cond b 1 0) (eqb-zero-suc h) ∙ zero_is
    by false e zero low later = ap (λ b. cond b 1 0) (apart (1 + position_or_len (λ q. holds q.nodes y) qs) 0 (λ same. omega (arith, same)))
        ∙ (sym (ap (λ b. cond b 1 0) e) ∙ here)
    by false e (suc h) low later = ap (λ b. cond b 1 0) (shifted (position_or_len (λ q. holds q.nodes y) qs) h) ∙ later h (omega (arith, low))

-- a node in no group has the number of all groups
no-number : (groups : List Group) (y : ℕ) → (position_or_len (λ q. holds q.nodes y) groups == length groups) ≡ not (list_any (λ q. holds q.nodes y) groups)
no-number [] y = refl
no-number (q ∷ qs) y = by (holds q.nodes y) (no-number qs y)
  where
    by : (b : Bool) → (position_or_len (λ q. holds q.nodes y) qs == length qs) ≡ not (list_any (λ q. holds q.nodes y) qs)
        → (cond (not b) (1 + position_or_len (λ q. holds q.nodes y) qs) 0 == suc (length qs)) ≡ not (b || list_any (λ q. holds q.nodes y) qs)
    by true rest = eqb-zero-suc (length qs)
    by false rest = shifted (position_or_len (λ q. holds q.nodes y) qs) (length qs) ∙ rest

-- ---- the visits in no group

abbrev pub required : Model → List ℕ
required model = filter (λ x. not (is_grouped model x)) (visits model)

required-times : (model : Model) (y : ℕ) → IsTrue (is_visit model y) → cond (group_number model y == length model.groups) 1 0 ≡ times y (required model)
required-times model y h =
    let once = visit-once model y h in
    let kept = times-filter (λ x. not (is_grouped model x)) (visits model) y in
    ap (λ b. cond b 1 0) (no-number model.groups y) ∙ (ap (λ n. cond (not (is_grouped model y)) n 0) (sym once) ∙ sym kept)

-- ---- active nodes by the numbers

module _ (model : Model) (well_formed : IsWellFormed model) (numbers : List ℕ)
    (are : AreNumbers model numbers) (tours : Tours) (of_model : AreTours model tours) where
  entry : (y : ℕ) → IsTrue (is_active tours.lists y) → IsTrue (is_visit model y)
  entry y active = sym (visit_test model y) ∙ subst (λ l. IsTrue (holds l y)) of_model.visits_are (of_model.entries y active)

  number-is : (y : ℕ) → IsTrue (is_active tours.lists y) → node_number numbers y ≡ group_number model y
  number-is y active = are.each y (visit_below model y (entry y active))

  -- the active nodes of a group
  pub group-count : (g : ℕ) → g < length model.groups → active_in tours.lists (group_at model g) ≡ over_lists (one_in_group numbers g) tours.lists
  group-count g low =
      let nodes : List ℕ = (group_at model g).nodes in
      active-count tours.lists of_model.once nodes
      ∙ over-active (λ y. times y nodes) (one_in_group numbers g) tours.lists (λ y active. sym
      (ap (λ n. cond (n == g) 1 0) (number-is y active)
      ∙ number-times model.groups y g (times_of_distinct (each model.groups nodes_in) well_formed.no_node_in_groups_twice y) low))

  -- the active visits in no group
  pub required-count : count_by (is_active tours.lists) (required model) ≡ over_lists (one_in_group numbers (length model.groups)) tours.lists
  required-count =
      active-count tours.lists of_model.once (required model)
      ∙ over-active (λ y. times y (required model)) (one_in_group numbers (length model.groups)) tours.lists (λ y active. sym
      (ap (λ n. cond (n == length model.groups) 1 0) (number-is y active) ∙ required-times model y (entry y active)))
