-- What a change adds to the penalties of groups.
use Rattle.std.proofs.Common.{◌≡◌, ◌∙◌, ℕ, zero, suc, ◌+◌, ◌*◌, ◌<◌, ◌≤◌, Bool, true, false, cond, List, [], ◌∷◌, length, drop, drop-cons, add-one, sum_by}
use Rattle.std.proofs.Common.{refl, sym, ap, subst, inl, inr, arith}
use Rattle.std.specs.Prelude.{All, IsTrue, nat_lt, reverse, slice_range, slice_index_or, Option, Some, None, ℤ, pos, negsuc, ◌+ℤ◌, ◌-ℤ◌, ◌*ℤ◌}
use Rattle.std.specs.List.{list_all}
use Rattle.std.proofs.lemmas.Bool.{cases_lt}
use Rattle.std.proofs.lemmas.Int.{ints}
use Rattle.std.proofs.Math.IntN.{suc_ℤ-*ℤ, zero-*ℤ}
use Rattle.std.proofs.Math.Nat.{mul-add}
use Rattle.std.proofs.lemmas.List.{get_or_past, reverse-append}
use Rattle.vr_model.proofs.tables.Totals.{total_by-append}
use Rattle.std.proofs.lemmas.List.Concat.{flat_map-cons}
use Rattle.std.proofs.lemmas.List.Sums.{sum_by-cons}
use Rattle.vr_model.specs.tables.Numbers.{total_by, number_at, each}
use Rattle.vr_model.specs.tables.Limits.{greatest_cost}
use Rattle.vr_model.specs.tables.WellFormed.{IsIn, IsWellFormed, WherePresent}
use Rattle.vr_model.specs.tables.Tables.{is_visit}
use Rattle.vr_model.specs.routes.Routes.{are_lists, holds, route}
use Rattle.vr_model.specs.routes.Rules.{active_in, fits_group, is_open, is_valid}
use Rattle.vr_model.specs.deciding.Testing.{and_left, and_right}
use Rattle.vr_model.specs.routes.Costs.{penalty_for, penalty_part}
use Rattle.vr_model.specs.declared.records.Model.{Model}
use Rattle.vr_model.specs.declared.records.Group.{Group}
use Rattle.vr_model.proofs.tables.Bounds.{none_at}
use Rattle.vr_model.proofs.tables.Tests.{all-from_list_all, fails}
use Rattle.vr_model.proofs.moves.Times.{times, times_append, times_of_distinct}
use Rattle.vr_model.proofs.routes.Lists.{place_of_held, visit_below}
use Rattle.vr_routes.specs.declared.pieces.Piece.{Piece}
use Rattle.vr_routes.specs.declared.pieces.Piece.TheVariants.{Chain}
use Rattle.vr_routes.specs.Pieces.{nodes_of}
use Rattle.vr_routes.specs.Seats.{IsOnce}
use Rattle.vr_routes.specs.Tours.{are_routes_open}
use Rattle.vr_balance.specs.Balances.{Turnover, IsBalance, over_pieces}
use Rattle.vr_balance.proofs.ActiveLemmas.{active-count, sum-same, sum-none, sum-plus, times-held}
use Rattle.vr_usecosts.specs.Groups.{pay, has_penalty, is_some_paid, saved_by, saved_in, AreSaved, AreFew}

-- ---- one group

-- what the penalty of a group gains by the nodes that go, and loses by those that come
scaled : (n max later now come gone : ℕ) → later + gone ≡ now + come
    → pos n *ℤ (pos max -ℤ pos later) -ℤ pos n *ℤ (pos max -ℤ pos now) ≡ pos (n * gone) -ℤ pos (n * come)
scaled zero max later now come gone is =
    let a = zero-*ℤ (pos max -ℤ pos later) in
    let b = zero-*ℤ (pos max -ℤ pos now) in
    let c : zero * gone ≡ 0 = omega arith in
    let d : zero * come ≡ 0 = omega arith in
    omega (arith, ints, a, b, c, d)
scaled (suc n) max later now come gone is =
    let i = scaled n max later now come gone is in
    let a : pos (suc n) *ℤ (pos max -ℤ pos later) ≡ pos n *ℤ (pos max -ℤ pos later) +ℤ (pos max -ℤ pos later) = suc_ℤ-*ℤ (pos n) (pos max -ℤ pos later) in
    let b : pos (suc n) *ℤ (pos max -ℤ pos now) ≡ pos n *ℤ (pos max -ℤ pos now) +ℤ (pos max -ℤ pos now) = suc_ℤ-*ℤ (pos n) (pos max -ℤ pos now) in
    let c : suc n * gone ≡ n * gone + gone = omega arith in
    let d : suc n * come ≡ n * come + come = omega arith in
    omega (arith, ints, i, a, b, c, d, is)

one-group : (penalty : Option ℤ) (max later now come gone : ℕ) → WherePresent (IsIn (pos 0) greatest_cost) penalty → later + gone ≡ now + come
    → penalty_for penalty max later -ℤ penalty_for penalty max now ≡ pos (pay penalty * gone) -ℤ pos (pay penalty * come)
one-group None max later now come gone present is =
    let c : 0 * gone ≡ 0 = omega arith in
    let d : 0 * come ≡ 0 = omega arith in
    omega (arith, ints, c, d)
one-group (Some (pos n)) max later now come gone present is = scaled n max later now come gone is
one-group (Some (negsuc n)) max later now come gone present is = absurd (let low = present.at_least in omega (arith, ints, low))

-- ---- all groups

-- how many nodes of pieces are of a group
abbrev many : List (List ℕ) → List Piece → Group → ℕ
many lists pieces group = over_pieces (λ y. times y group.nodes) lists pieces

all-groups : (lists later : List (List ℕ)) (turnover : Turnover) → IsBalance lists later turnover → IsOnce lists
    → IsOnce later → (groups : List Group) → All (λ group. WherePresent (IsIn (pos 0) greatest_cost) group.penalty) groups
    → total_by (λ group. penalty_for group.penalty group.max (active_in later group)) groups
    -ℤ total_by (λ group. penalty_for group.penalty group.max (active_in lists group)) groups
    ≡ pos (sum_by (λ group. pay group.penalty * many lists turnover.gone group) groups)
    -ℤ pos (sum_by (λ group. pay group.penalty * many lists turnover.come group) groups)
all-groups lists later turnover balance once once_later [] present = omega (arith, ints)
all-groups lists later turnover balance once once_later (q ∷ qs) present =
    let rest = all-groups lists later turnover balance once once_later qs (λ k d low. present (suc k) d (omega (arith, low))) in
    let before = active-count lists once q.nodes in
    let after = active-count later once_later q.nodes in
    let moved = balance.balanced (λ y. times y q.nodes) in
    let here = one-group q.penalty q.max (active_in later q) (active_in lists q) (many lists turnover.come q)
    (many lists turnover.gone q) (present 0 q (omega arith)) (omega (arith, before, after, moved)) in
    let gone = sum_by-cons (λ group. pay group.penalty * many lists turnover.gone group) q qs in
    let come = sum_by-cons (λ group. pay group.penalty * many lists turnover.come group) q qs in
    omega (arith, ints, rest, here, gone, come)

-- without a penalty that is not 0 nothing changes
unpaid : (lists later : List (List ℕ)) (groups : List Group)
    → All (λ group. WherePresent (IsIn (pos 0) greatest_cost) group.penalty) groups → All (λ group. pay group.penalty ≡ 0) groups
    → total_by (λ group. penalty_for group.penalty group.max (active_in later group)) groups
    -ℤ total_by (λ group. penalty_for group.penalty group.max (active_in lists group)) groups ≡ pos 0
unpaid lists later [] present none = omega (arith, ints)
unpaid lists later (q ∷ qs) present none =
    let rest = unpaid lists later qs (λ k d low. present (suc k) d (omega (arith, low))) (λ k d low. none (suc k) d (omega (arith, low))) in
    let here = one-group q.penalty q.max (active_in later q) (active_in lists q)
    (active_in later q) (active_in lists q) (present 0 q (omega arith)) (omega arith) in
    let zero_is : pay q.penalty ≡ 0 = none 0 q (omega arith) in
    let gone : pay q.penalty * active_in lists q ≡ 0 = ap (λ n. n * active_in lists q) zero_is ∙ omega arith in
    let come : pay q.penalty * active_in later q ≡ 0 = ap (λ n. n * active_in later q) zero_is ∙ omega arith in
    omega (arith, ints, rest, here, gone, come)

pub penalties-stay : (model : Model) → IsWellFormed model → (lists later : List (List ℕ))
    → is_some_paid model ≡ false → pos 0 ≡ penalty_part model later -ℤ penalty_part model lists
penalties-stay model well_formed lists later none =
    sym (unpaid lists later model.groups (λ k group low. (well_formed.each_group k group low).penalty_in_range)
    (λ k group low. zero_of (pay (slice_index_or model.groups k group).penalty) (none_at has_penalty model.groups k group none low)))
  where
    zero_of : (n : ℕ) → nat_lt 0 n ≡ false → n ≡ 0
    zero_of n e = Prim.grind arith

-- ---- sums over groups and over nodes

sum-times : {A : Type 0} (n : ℕ) (f : A → ℕ) (xs : List A) → sum_by (λ x. n * f x) xs ≡ n * sum_by f xs
sum-times n f [] = let e : n * 0 ≡ 0 = omega arith in sym e
sum-times n f (x ∷ xs) =
    let a = sum_by-cons (λ x. n * f x) x xs in
    let b = ap (λ s. n * s) (sum_by-cons f x xs) in
    let c : n * (f x + sum_by f xs) ≡ n * f x + n * sum_by f xs = mul-add n (f x) (sum_by f xs) in
    let i = sum-times n f xs in
    omega (arith, a, b, c, i)

pieces-times : (n : ℕ) (f : ℕ → ℕ) (lists : List (List ℕ)) (pieces : List Piece) → over_pieces (λ y. n * f y) lists pieces ≡ n * over_pieces f lists pieces
pieces-times n f lists pieces =
    sum-same (λ p. sum_by (λ y. n * f y) (nodes_of lists p)) (λ p. n * sum_by f (nodes_of lists p)) (λ p. sum-times n f (nodes_of lists p)) pieces
    ∙ sum-times n (λ p. sum_by f (nodes_of lists p)) pieces

pieces-plus : (f g : ℕ → ℕ) (lists : List (List ℕ)) (pieces : List Piece)
    → over_pieces (λ y. f y + g y) lists pieces ≡ over_pieces f lists pieces + over_pieces g lists pieces
pieces-plus f g lists pieces = sum-same (λ p. sum_by (λ y. f y + g y) (nodes_of lists p)) (λ p. sum_by f (nodes_of lists p) + sum_by g (nodes_of lists p))
    (λ p. sum-plus f g (nodes_of lists p)) pieces ∙ sum-plus (λ p. sum_by f (nodes_of lists p)) (λ p. sum_by g (nodes_of lists p)) pieces

pieces-same : (f g : ℕ → ℕ) (lists : List (List ℕ)) (pieces : List Piece) → ((y : ℕ) → f y ≡ g y) → over_pieces f lists pieces ≡ over_pieces g lists pieces
pieces-same f g lists pieces same =
    sum-same (λ p. sum_by f (nodes_of lists p)) (λ p. sum_by g (nodes_of lists p)) (λ p. sum-same f g same (nodes_of lists p)) pieces

-- what a node saves, group by group
abbrev paid : List Group → ℕ → ℕ
paid groups y = sum_by (λ group. pay group.penalty * times y group.nodes) groups

groups-turned : (lists : List (List ℕ)) (pieces : List Piece) (groups : List Group)
    → sum_by (λ group. pay group.penalty * many lists pieces group) groups ≡ over_pieces (paid groups) lists pieces
groups-turned lists pieces [] =
    sym (sum-same (λ p. sum_by (λ (y : ℕ). 0) (nodes_of lists p)) (λ p. 0) (λ p. sum-none (nodes_of lists p)) pieces ∙ sum-none pieces)
groups-turned lists pieces (q ∷ qs) =
    let a = sum_by-cons (λ group. pay group.penalty * many lists pieces group) q qs in
    let i = groups-turned lists pieces qs in
    let t = pieces-times (pay q.penalty) (λ y. times y q.nodes) lists pieces in
    let p = pieces-plus (λ y. pay q.penalty * times y q.nodes) (paid qs) lists pieces in
    let s = pieces-same (paid (q ∷ qs)) (λ y. pay q.penalty * times y q.nodes + paid qs y)
    lists pieces (λ y. sum_by-cons (λ group. pay group.penalty * times y group.nodes) q qs) in
    omega (arith, a, i, t, p, s)

abbrev nodes_in : Group → List ℕ
nodes_in group = group.nodes

paid-none : (groups : List Group) (y : ℕ) → times y (each groups nodes_in) ≡ 0 → paid groups y ≡ 0
paid-none [] y none = refl
paid-none (q ∷ qs) y none =
    let all = ap (times y) (flat_map-cons nodes_in q qs) ∙ times_append y q.nodes (each qs nodes_in) in
    let here : times y q.nodes ≡ 0 = omega (arith, all, none) in
    let nothing : pay q.penalty * times y q.nodes ≡ 0 = ap (λ n. pay q.penalty * n) here ∙ omega arith in
    let rest = paid-none qs y (omega (arith, all, none)) in
    let c = sum_by-cons (λ group. pay group.penalty * times y group.nodes) q qs in
    omega (arith, c, nothing, rest)

-- it is the penalty of the one group that has the node
paid-once : (groups : List Group) (y : ℕ) → times y (each groups nodes_in) ≤ 1 → paid groups y ≡ saved_by groups y
paid-once [] y few = refl
paid-once (q ∷ qs) y few = sum_by-cons (λ group. pay group.penalty * times y group.nodes) q qs
    ∙ by (holds q.nodes y) refl (paid-once qs y (omega (arith, few, all)))
  where
    all : times y (each (q ∷ qs) nodes_in) ≡ times y q.nodes + times y (each qs nodes_in)
    all = ap (times y) (flat_map-cons nodes_in q qs) ∙ times_append y q.nodes (each qs nodes_in)

    here : cond (holds q.nodes y) 1 0 ≡ times y q.nodes
    here = times-held q.nodes y (omega (arith, few, all))

    by : (b : Bool) → holds q.nodes y ≡ b → paid qs y ≡ saved_by qs y → pay q.penalty * times y q.nodes + paid qs y ≡ cond b (pay q.penalty) (saved_by qs y)
    by true e rest =
        let one : times y q.nodes ≡ 1 = sym here ∙ ap (λ b. cond b 1 0) e in
        let none = paid-none qs y (omega (arith, few, all, one)) in
        let whole : pay q.penalty * times y q.nodes ≡ pay q.penalty = ap (λ n. pay q.penalty * n) one ∙ omega arith in
        omega (arith, whole, none)
    by false e rest =
        let zero_is : times y q.nodes ≡ 0 = sym here ∙ ap (λ b. cond b 1 0) e in
        let nothing : pay q.penalty * times y q.nodes ≡ 0 = ap (λ n. pay q.penalty * n) zero_is ∙ omega arith in
        omega (arith, nothing, rest)

-- ---- what is kept

not-saved : (groups : List Group) (y : ℕ)
    → ((group : Group) (g : ℕ) → g < length groups → holds (slice_index_or groups g group).nodes y ≡ false) → saved_by groups y ≡ 0
not-saved [] y none = refl
not-saved (q ∷ qs) y none = ap (λ b. cond b (pay q.penalty) (saved_by qs y)) (none q 0 (omega arith))
    ∙ not-saved qs y (λ d g low. none d (suc g) (omega (arith, low)))

module _ (model : Model) (well_formed : IsWellFormed model) (saved : List ℤ) (are : AreSaved model saved) where
  pub saved-is : (y : ℕ) → number_at saved y ≡ pos (saved_by model.groups y)
  saved-is y = elim (cases_lt y model.nodes) [
    | inl low ↦ are.each y low
    | inr high ↦ (
        let past = get_or_past saved y (pos 0) (let n = are.long in omega (arith, n, high)) in
        let none = not-saved model.groups y (λ d g low. fails (holds (slice_index_or model.groups g d).nodes y) (λ held.
        let p = place_of_held (slice_index_or model.groups g d).nodes y held in
        let visit = subst (λ x. IsTrue (is_visit model x)) p.2 ((well_formed.each_group g d low).each_node_is_visit p.0 0 p.1) in
        let low_too = visit_below model y visit in
        omega (arith, low_too, high))) in
        past ∙ ap pos (sym none))
  ]

  few-saved : (groups : List Group) (y : ℕ) → All (λ group. WherePresent (IsIn (pos 0) greatest_cost) group.penalty) groups → saved_by groups y ≤ 1099511627776
  few-saved [] y present = omega arith
  few-saved (q ∷ qs) y present =
      by (holds q.nodes y) (few-saved qs y (λ k d low. present (suc k) d (omega (arith, low)))) (few q.penalty (present 0 q (omega arith)))
    where
      few : (penalty : Option ℤ) → WherePresent (IsIn (pos 0) greatest_cost) penalty → pay penalty ≤ 1099511627776
      few None present = omega arith
      few (Some (pos n)) present = let high = present.at_most in omega (arith, ints, high)
      few (Some (negsuc n)) present = omega arith

      by : (b : Bool) → saved_by qs y ≤ 1099511627776 → pay q.penalty ≤ 1099511627776 → cond b (pay q.penalty) (saved_by qs y) ≤ 1099511627776
      by true rest here = here
      by false rest here = rest

  pub are-few : AreFew saved
  are-few y =
      let is = saved-is y in
      let few = few-saved model.groups y (λ k group low. (well_formed.each_group k group low).penalty_in_range) in
      record { low = omega (arith, ints, is); high = omega (arith, ints, is, few) }

  total-saved : (xs : List ℕ) → total_by (number_at saved) xs ≡ pos (sum_by (saved_by model.groups) xs)
  total-saved [] = refl
  total-saved (x ∷ xs) =
      let here = saved-is x in
      let rest = total-saved xs in
      let c = sum_by-cons (saved_by model.groups) x xs in
      omega (arith, ints, here, rest, c)

  in-pieces : (lists : List (List ℕ)) (pieces : List Piece) → saved_in saved lists pieces ≡ pos (over_pieces (saved_by model.groups) lists pieces)
  in-pieces lists [] = refl
  in-pieces lists (p ∷ ps) =
      let here = total-saved (nodes_of lists p) in
      let rest = in-pieces lists ps in
      let c = sum_by-cons (λ piece. sum_by (saved_by model.groups) (nodes_of lists piece)) p ps in
      omega (arith, ints, here, rest, c)

  -- what a change adds to the penalties is what the nodes that go saved, less what those that come save
  pub penalties-change : (lists later : List (List ℕ)) (turnover : Turnover) → IsOnce lists → IsOnce later → IsBalance lists later turnover
      → penalty_part model later -ℤ penalty_part model lists ≡ saved_in saved lists turnover.gone -ℤ saved_in saved lists turnover.come
  penalties-change lists later turnover once_before once_later balance =
      let groups : List Group = model.groups in
      let d = all-groups lists later turnover balance once_before once_later groups (λ k group low. (well_formed.each_group k group low).penalty_in_range) in
      let once = λ (y : ℕ). paid-once groups y (times_of_distinct (each groups nodes_in) well_formed.no_node_in_groups_twice y) in
      let gone = groups-turned lists turnover.gone groups ∙ pieces-same (paid groups) (saved_by groups) lists turnover.gone once in
      let come = groups-turned lists turnover.come groups ∙ pieces-same (paid groups) (saved_by groups) lists turnover.come once in
      let g = in-pieces lists turnover.gone in
      let c = in-pieces lists turnover.come in
      omega (arith, ints, d, gone, come, g, c)

-- ---- what the code asks in turn

-- the groups from a place on, of which the first is there
pub saved-next : (groups : List Group) (y g : ℕ) (q : Group) → g < length groups → slice_index_or groups g q ≡ q
    → saved_by (drop g groups) y ≡ cond (holds q.nodes y) (pay q.penalty) (saved_by (drop (g + 1) groups) y)
saved-next groups y g q low is =
    ap (λ l. saved_by l y) (drop-cons groups g q low) ∙ (ap (λ r. saved_by (r ∷ drop (suc g) groups) y) is
    ∙ ap (λ n. cond (holds q.nodes y) (pay q.penalty) (saved_by (drop n groups) y)) (sym (add-one g)))

total-turned : (f : ℕ → ℤ) (xs : List ℕ) → total_by f (reverse xs) ≡ total_by f xs
total-turned f [] = refl
total-turned f (x ∷ xs) =
    let a = ap (total_by f) (reverse-append (x ∷ []) xs) in
    let b = total_by-append f (reverse xs) (x ∷ []) in
    let i = total-turned f xs in
    omega (arith, ints, a, b, i)

-- a chain, whichever way it goes
pub total-chain : (f : ℕ → ℤ) (lists : List (List ℕ)) (v from to : ℕ) (reversed : Bool)
    → total_by f (nodes_of lists (Chain v from to reversed)) ≡ total_by f (slice_range (route lists v) from to)
total-chain f lists v from to false = refl
total-chain f lists v from to true = total-turned f (slice_range (route lists v) from to)

-- ---- what the groups cost

-- what a group costs at lists
abbrev pub group_cost : List (List ℕ) → Group → ℤ
group_cost lists group = penalty_for group.penalty group.max (active_in lists group)

-- no group of valid lists has more active nodes than it may have
pub all-fit : (model : Model) (lists : List (List ℕ)) → IsTrue (is_valid model lists) → All (λ group. IsTrue (fits_group lists group)) model.groups
unfolding is_valid is_open
all-fit model lists valid =
    all-from_list_all (fits_group lists) model.groups
    (and_right (are_routes_open model lists) (list_all (fits_group lists) model.groups)
    (and_left (is_open model lists) _ (and_right (are_lists model lists) _ valid)))
