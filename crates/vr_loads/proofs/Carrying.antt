-- Lines without slack and breaks, whose stops ask for no more than the capacity: the cumuls are sums of what is taken.
use Rattle.std.proofs.Common.{◌≡◌, ◌∙◌, ℕ, zero, suc, ◌<◌, ◌≤◌, cond, List, [], ◌∷◌, length, take, refl, sym, ap, subst, arith}
use Rattle.std.specs.Prelude.{IsTrue, ℤ, pos, ◌+ℤ◌, ◌-ℤ◌, ◌≤ℤ◌, slice_index_or}
use Rattle.std.proofs.lemmas.Int.{ints}
use Rattle.std.proofs.lemmas.List.{take_all}
use Rattle.vr_model.specs.tables.Numbers.{number_at, total_by, below}
use Rattle.vr_model.specs.schedules.Lines.{Line}
use Rattle.vr_model.specs.schedules.Schedules.{Plan, IsSchedule, IsFeasible, allows, arc_at, cumul, break_at, break_time, is_inside}
use Rattle.vr_loads.proofs.Totals.{AreSmall, total-next, total-grows, total-bounds}

-- along a line each arc adds what f gives of the node where it begins, and stops ask for no more than a capacity
pub record IsCarrying (line : Line) (f : ℕ → ℤ) (nodes : List ℕ) (capacity : ℤ) : Type 0 where
  pub stops : length line.allowed ≡ suc (length nodes)
  pub arcs : length line.arcs ≡ length nodes
  pub transits : (k : ℕ) → k < length nodes → (arc_at line k).transit ≡ f (slice_index_or nodes k 0)
  pub tight : line.slack_max ≡ pos 0
  pub no_breaks : line.breaks ≡ []
  pub bounded : (k : ℕ) → k ≤ length nodes → (x : ℤ) → IsTrue (allows line k x) → (pos 0 ≤ℤ x) × (x ≤ℤ capacity)
  pub first : pos 0 ≤ℤ capacity → IsTrue (allows line 0 (pos 0))
  pub others : (k : ℕ) → 0 < k → k ≤ length nodes → (x : ℤ) → pos 0 ≤ℤ x → x ≤ℤ capacity → IsTrue (allows line k x)

-- the sums of what is taken, from a number on
sums_from : (ℕ → ℤ) → ℤ → List ℕ → List ℤ
sums_from f at [] = at ∷ []
sums_from f at (x ∷ xs) = at ∷ sums_from f (at +ℤ f x) xs

sums_many : (f : ℕ → ℤ) (at : ℤ) (xs : List ℕ) → length (sums_from f at xs) ≡ suc (length xs)
unfolding sums_from
sums_many f at [] = refl
sums_many f at (x ∷ xs) = ap suc (sums_many f (at +ℤ f x) xs)

sums_at : (f : ℕ → ℤ) (at : ℤ) (xs : List ℕ) (k : ℕ) → k ≤ length xs → number_at (sums_from f at xs) k ≡ at +ℤ total_by f (take k xs)
unfolding sums_from
sums_at f at [] zero low = omega (arith, ints)
sums_at f at [] (suc k) low = absurd (omega (arith, low))
sums_at f at (x ∷ xs) zero low = omega (arith, ints)
sums_at f at (x ∷ xs) (suc k) low = let i = sums_at f (at +ℤ f x) xs k (omega (arith, low)) in omega (arith, ints, i)

-- no slack at each node
no_slacks : List ℕ → List ℤ
no_slacks [] = []
no_slacks (x ∷ xs) = pos 0 ∷ no_slacks xs

slacks_many : (xs : List ℕ) → length (no_slacks xs) ≡ length xs
unfolding no_slacks
slacks_many [] = refl
slacks_many (x ∷ xs) = ap suc (slacks_many xs)

slack_at : (xs : List ℕ) (k : ℕ) → number_at (no_slacks xs) k ≡ pos 0
unfolding no_slacks
slack_at [] k = refl
slack_at (x ∷ xs) zero = refl
slack_at (x ∷ xs) (suc k) = slack_at xs k

over_none : (g : ℕ → ℤ) (n : ℕ) → n ≡ 0 → total_by g (below n) ≡ pos 0
over_none g n e = ap (λ m. total_by g (below m)) e

module _ (line : Line) (f : ℕ → ℤ) (nodes : List ℕ) (capacity : ℤ) (is : IsCarrying line f nodes capacity) where
  -- the cumuls of a schedule grow by what is taken
  grows : (plan : Plan) → IsSchedule line plan → (k : ℕ) → k ≤ length nodes → cumul plan k ≡ cumul plan 0 +ℤ total_by f (take k nodes)
  grows plan s zero le = omega (arith, ints)
  grows plan s (suc k) le =
      let i = grows plan s k (omega (arith, le)) in
      let low : k < length line.arcs = (let n = is.arcs in omega (arith, le, n)) in
      let left = s.slacks_left k low in
      let bound = s.slacks_bounded k low in
      let t = is.transits k le in
      let m = total-next f nodes k le in
      let tight = is.tight in
      omega (arith, ints, i, left, bound.0, bound.1, t, m, tight)

  -- what is taken fits where there is a schedule
  pub fits : IsFeasible line → total_by f nodes ≤ℤ capacity
  fits r =
      let plan : Plan = r.0 in
      let s = r.1 in
      let n = is.stops in
      let all = ap (total_by f) (take_all (length nodes) nodes (omega arith)) in
      let g = grows plan s (length nodes) (omega arith) in
      let last = is.bounded (length nodes) (omega arith) (cumul plan (length nodes)) (s.cumuls_allowed (length nodes) (omega (arith, n))) in
      let first = is.bounded 0 (omega arith) (cumul plan 0) (s.cumuls_allowed 0 (omega (arith, n))) in
      omega (arith, ints, all, g, last.1, first.0)

  -- the sums of what is taken, from 0 on, are a schedule where all of it fits
  module _ (small : AreSmall f) (fit : total_by f nodes ≤ℤ capacity) where
    abbrev sums : Plan
    sums = record { cumuls = sums_from f (pos 0) nodes; slacks = no_slacks nodes; breaks = [] }

    cumul_is : (k : ℕ) → k ≤ length nodes → cumul sums k ≡ total_by f (take k nodes)
    cumul_is k le = let e = sums_at f (pos 0) nodes k le in omega (arith, ints, e)

    allowed_at : (k : ℕ) → k ≤ length nodes → IsTrue (allows line k (cumul sums k))
    allowed_at zero le =
        let e : pos 0 ≡ cumul sums 0 = sym (cumul_is 0 le) in
        let b = total-bounds f small nodes in
        subst (λ x. IsTrue (allows line 0 x)) e (is.first (let lo = b.low in omega (arith, ints, lo, fit)))
    allowed_at (suc k) le =
        let e = cumul_is (suc k) le in
        let b = total-bounds f small (take (suc k) nodes) in
        let g = total-grows f small nodes (suc k) in
        is.others (suc k) (omega arith) le (cumul sums (suc k)) (let lo = b.low in omega (arith, ints, e, lo)) (omega (arith, ints, e, g, fit))

    none : length line.breaks ≡ 0
    none = ap length is.no_breaks

    pub goes_through : IsFeasible line
    goes_through = (
      sums,
      record {
        cumul_of_each_stop = sums_many f (pos 0) nodes ∙ sym is.stops;
        slack_of_each_arc = slacks_many nodes ∙ sym is.arcs;
        start_of_each_break = sym none;
        cumuls_allowed = λ k low. allowed_at k (let n = is.stops in omega (arith, low, n));
        slacks_left = λ k low. left k (let n = is.arcs in omega (arith, low, n));
        slacks_bounded =
            λ k low. (let s = slack_at nodes k in omega (arith, ints, s), (let s = slack_at nodes k in let t = is.tight in omega (arith, ints, s, t)));
        breaks_in_range = λ i low. absurd (omega (arith, low, none));
        breaks_in_order = λ i low. absurd (omega (arith, low, none));
        breaks_placed = λ i low. absurd (omega (arith, low, none));
        slacks_carry_breaks = λ k low. carries k;
      },
    )
      where
        left : (k : ℕ) → k < length nodes → number_at (no_slacks nodes) k ≡ (cumul sums (suc k) -ℤ cumul sums k) -ℤ (arc_at line k).transit
        left k low =
            let s = slack_at nodes k in
            let a = cumul_is (suc k) low in
            let b = cumul_is k (omega (arith, low)) in
            let t = is.transits k low in
            let m = total-next f nodes k low in
            omega (arith, ints, s, a, b, t, m)

        carries : (k : ℕ) → break_time line sums k ≤ℤ number_at (no_slacks nodes) k
        carries k =
            let s = slack_at nodes k in
            let none_at_all : break_time line sums k ≡ pos 0 = over_none (λ i. cond (is_inside line sums i k) (break_at line i).duration (pos 0))
            (length line.breaks) none in
            omega (arith, ints, s, none_at_all)
