-- The one group that a node stands in.
use Rattle.std.proofs.Common.{◌≡◌, ◌∙◌, ◌<◌, ◌≤◌, ◌+◌, ℕ, zero, suc, List, [], ◌∷◌, Bool, true, false, cond, not, refl, ap, ap₂, arith, length}
use Rattle.std.specs.Prelude.{◌&&◌, ◌||◌, slice_index_or, IsTrue}
use Rattle.std.specs.List.{list_any, position_or_len}
use Rattle.std.proofs.lemmas.List.Concat.{flat_map-cons}
use Rattle.std.proofs.lemmas.List.Sums.{position_or_len_is}
use Rattle.vr_model.specs.declared.records.Group.{Group}
use Rattle.vr_model.specs.first.Items.{is_penalty_given}
use Rattle.vr_model.specs.routes.Routes.{holds}
use Rattle.vr_model.specs.tables.Numbers.{each}
use Rattle.vr_model.proofs.moves.Times.{times, times_append, held_times}
use Rattle.vr_model.proofs.tables.Tests.{fails}
use Rattle.vr_lists.specs.Nodes.{no_group}

abbrev pub nodes_in : Group → List ℕ
nodes_in group = group.nodes

-- how often a node stands in a group and in those behind it
pub times-cons : (q : Group) (qs : List Group) (y : ℕ) → times y (each (q ∷ qs) nodes_in) ≡ times y q.nodes + times y (each qs nodes_in)
times-cons q qs y = ap (times y) (flat_map-cons nodes_in q qs) ∙ times_append y q.nodes (each qs nodes_in)

-- a group among others
pub group-times : (groups : List Group) (y g : ℕ) → times y (slice_index_or groups g no_group).nodes ≤ times y (each groups nodes_in)
group-times [] y g = omega arith
group-times (q ∷ qs) y zero = let all = times-cons q qs y in omega (arith, all)
group-times (q ∷ qs) y (suc g) = let all = times-cons q qs y in let rest = group-times qs y g in omega (arith, all, rest)

-- no node stands in two groups
two_apart : (groups : List Group) (j k y : ℕ) → j < k → k < length groups → times y (each groups nodes_in) ≤ 1
    → IsTrue (holds (slice_index_or groups j no_group).nodes y) → IsTrue (holds (slice_index_or groups k no_group).nodes y) → ⊥
two_apart [] j k y before low few one other = absurd (omega (arith, low))
two_apart (q ∷ qs) j zero y before low few one other = absurd (omega (arith, before))
two_apart (q ∷ qs) zero (suc k) y before low few one other =
    let all = times-cons q qs y in
    let here = held_times y q.nodes one in
    let there = held_times y (slice_index_or qs k no_group).nodes other in
    let within = group-times qs y k in
    omega (arith, few, all, here, there, within)
two_apart (q ∷ qs) (suc j) (suc k) y before low few one other =
    let all = times-cons q qs y in
    two_apart qs j k y (omega (arith, before)) (omega (arith, low)) (omega (arith, few, all)) one other

-- a node has the number of a group that it stands in
pub number_at : (groups : List Group) (k y : ℕ) → times y (each groups nodes_in) ≤ 1
    → k < length groups → IsTrue (holds (slice_index_or groups k no_group).nodes y)
    → position_or_len (λ q. holds q.nodes y) groups ≡ k
number_at groups k y few low held =
    position_or_len_is (λ q. holds q.nodes y) groups k no_group (omega (arith, low))
    (λ j before. fails (holds (slice_index_or groups j no_group).nodes y) (λ one. two_apart groups j k y before low few one held)) (λ _. held)

-- a node is in a group that must be filled
abbrev pub is_needed : ℕ → Group → Bool
is_needed y q = holds q.nodes y && not (is_penalty_given q.penalty)

none_needed : (groups : List Group) (y : ℕ) → times y (each groups nodes_in) ≡ 0 → list_any (is_needed y) groups ≡ false
none_needed [] y none = refl
none_needed (q ∷ qs) y none =
    let all = times-cons q qs y in
    let here : holds q.nodes y ≡ false = fails (holds q.nodes y) (λ h. let some = held_times y q.nodes h in omega (arith, some, none, all)) in
    ap₂ (λ a b. (a && not (is_penalty_given q.penalty)) || b) here (none_needed qs y (omega (arith, none, all)))

-- that is told by the group of its number
pub needed-number : (groups : List Group) (y : ℕ) → times y (each groups nodes_in) ≤ 1 → position_or_len (λ q. holds q.nodes y) groups < length groups
    → list_any (is_needed y) groups ≡ not (is_penalty_given (slice_index_or groups (position_or_len (λ q. holds q.nodes y) groups) no_group).penalty)
needed-number [] y few low = absurd (omega (arith, low))
needed-number (q ∷ qs) y few low = by (holds q.nodes y) refl low (λ few_behind within. needed-number qs y few_behind within)
  where
    place : ℕ
    place = position_or_len (λ q. holds q.nodes y) qs

    all : times y (each (q ∷ qs) nodes_in) ≡ times y q.nodes + times y (each qs nodes_in)
    all = times-cons q qs y

    or-none : (b : Bool) → (b || false) ≡ b
    or-none true = refl
    or-none false = refl

    by : (b : Bool) → holds q.nodes y ≡ b → cond (not b) (1 + place) 0 < suc (length qs)
        → (times y (each qs nodes_in) ≤ 1 → place < length qs → list_any (is_needed y) qs ≡ not (is_penalty_given (slice_index_or qs place no_group).penalty))
        → ((b && not (is_penalty_given q.penalty)) || list_any (is_needed y) qs)
        ≡ not (is_penalty_given (slice_index_or (q ∷ qs) (cond (not b) (1 + place) 0) no_group).penalty)
    by true e within behind =
        let some = held_times y q.nodes e in
        ap (λ b. not (is_penalty_given q.penalty) || b) (none_needed qs y (omega (arith, few, all, some))) ∙ or-none (not (is_penalty_given q.penalty))
    by false e within behind =
        let more : suc place ≡ 1 + place = omega arith in
        behind (omega (arith, few, all)) (omega (arith, within)) ∙ ap (λ k. not (is_penalty_given (slice_index_or (q ∷ qs) k no_group).penalty)) more
