-- A schedule without breaks that could start earlier.
use Rattle.std.proofs.Common.{◌≡◌, ◌∙◌, ℕ, zero, suc, ◌<◌, ◌⊎◌, inl, inr, true, false, not, List, [], ◌∷◌, ◌++◌, length, Option, Some, None, refl, ap, sym}
use Rattle.std.proofs.Common.{subst, arith}
use Rattle.std.specs.Prelude.{ℤ, pos, negsuc, ◌+ℤ◌, ◌-ℤ◌, ◌≤ℤ◌, ◌||◌, fold, IsTrue, int_le, int_lt}
use Rattle.std.specs.List.{list_all}
use Rattle.std.proofs.lemmas.Int.{ints, int_min_is}
use Rattle.vr_model.specs.tables.Numbers.{below, horizon, is_lex_le, is_same_number, number_at, total_by, within}
use Rattle.vr_model.specs.tables.WellFormed.{IsInterval, IsStopRow, WherePresent}
use Rattle.vr_model.specs.routes.Routes.{is_empty}
use Rattle.vr_model.specs.schedules.Lines.{Line, in_window, start_allows, stop_allows}
use Rattle.vr_model.specs.schedules.Schedules.{Plan, IsSchedule, allows, arc_at, break_time, cumul, is_no_later, slack}
use Rattle.vr_model.specs.deciding.Testing.{and_left, and_right, and_both, or_cases, or_left, eq_of_tests, test_of_within, within_is}
use Rattle.vr_model.specs.declared.records.Dimension.{Dimension}
use Rattle.vr_model.specs.declared.records.Interval.{Interval}
use Rattle.vr_model.specs.declared.records.StopRow.{StopRow}
use Rattle.vr_earliest.specs.Floors.{behind_interval, floor_of, forbids_none, opening}

-- ---- the first number of a list is another one

abbrev shifted : List ℤ → ℤ → List ℤ
shifted [] y = []
shifted (x ∷ xs) y = (x +ℤ y) ∷ xs

shifted-long : (xs : List ℤ) (y : ℤ) → length (shifted xs y) ≡ length xs
shifted-long [] y = refl
shifted-long (x ∷ xs) y = refl

shifted-first : (xs : List ℤ) (y : ℤ) → 0 < length xs → number_at (shifted xs y) 0 ≡ number_at xs 0 +ℤ y
shifted-first [] y some = absurd (omega (arith, some))
shifted-first (x ∷ xs) y some = refl

shifted-rest : (xs : List ℤ) (y : ℤ) (k : ℕ) → number_at (shifted xs y) (suc k) ≡ number_at xs (suc k)
shifted-rest [] y k = refl
shifted-rest (x ∷ xs) y k = refl

-- with a lesser first number a list comes before itself
not-before : (xs ys : List ℤ) → 0 < length xs → IsTrue (is_lex_le (xs ++ ys) (shifted xs (negsuc 0) ++ ys)) → ⊥
not-before [] ys some h = omega (arith, some)
not-before (x ∷ xs) ys some h = elim (or_cases (int_lt x (x +ℤ negsuc 0)) _ h) [
  | inl less ↦ omega (arith, ints, less)
  | inr same ↦ (let l = and_left (int_le x (x +ℤ negsuc 0)) _ same in omega (arith, ints, l))
]

-- ---- a start that allows more

abbrev earlier : Plan → Plan
earlier plan = record { cumuls = shifted plan.cumuls (negsuc 0); slacks = shifted plan.slacks (pos 1); breaks = plan.breaks }

none-of : {A : Type 0} (xs : List A) → IsTrue (is_empty xs) → xs ≡ []
none-of [] h = refl
none-of (x ∷ xs) h = absurd (let f : false ≡ true → ⊥ = λ e. Prim.cc in f h)

-- a start that forbids no number between others allows the number before one above its floor
pub start-before : (dimension : Dimension) (capacity : ℤ) (row : Option StopRow) (x : ℤ) → WherePresent IsStopRow row
    → IsTrue (forbids_none row) → IsTrue (start_allows dimension capacity row x) → (floor_of row +ℤ pos 1) ≤ℤ x → x ≤ℤ horizon
    → IsTrue (start_allows dimension capacity row (x +ℤ negsuc 0))
start-before dimension capacity row x is none allowed above top =
    and_both (stop_allows capacity row (x +ℤ negsuc 0)) _ (stop row is none above (and_left (stop_allows capacity row x) _ allowed))
    (fixed (or_cases (not dimension.fix_start) _ (and_right (stop_allows capacity row x) _ allowed)))
  where
    opens : (row : StopRow) → IsStopRow row → pos 0 ≤ℤ opening row.window
    opens row is = go row.window is.window_is_interval
      where
        go : (window : Option Interval) → WherePresent IsInterval window → pos 0 ≤ℤ opening window
        go None h = omega (arith, ints)
        go (Some w) h = h.lo_in_range

    above_opening : (row : StopRow) → IsTrue (is_empty row.forbidden) → (floor_of (Some row) +ℤ pos 1) ≤ℤ x → (opening row.window +ℤ pos 1) ≤ℤ x
    above_opening row none above =
        let e : fold behind_interval (opening row.window) row.forbidden ≡ opening row.window = ap (fold behind_interval (opening row.window))
        (none-of row.forbidden none) in
        let m = int_min_is horizon (fold behind_interval (opening row.window) row.forbidden) in
        omega (arith, ints, e, m, above, top)

    stop : (row : Option StopRow) → WherePresent IsStopRow row → IsTrue (forbids_none row) → (floor_of row +ℤ pos 1) ≤ℤ x
        → IsTrue (stop_allows capacity row x) → IsTrue (stop_allows capacity row (x +ℤ negsuc 0))
    stop None is none above allowed =
        let w = within_is (pos 0) capacity x (and_left (within (pos 0) capacity x) _ allowed) in
        and_both (within (pos 0) capacity (x +ℤ negsuc 0)) true
        (test_of_within (pos 0) capacity (x +ℤ negsuc 0) (omega (arith, ints, above)) (omega (arith, ints, w.1))) refl
    stop (Some row) is none above allowed =
        let w = within_is (pos 0) capacity x (and_left (within (pos 0) capacity x) _ allowed) in
        let a = above_opening row none above in
        let o = opens row is in
        and_both (within (pos 0) capacity (x +ℤ negsuc 0)) _
        (test_of_within (pos 0) capacity (x +ℤ negsuc 0) (omega (arith, ints, a, o)) (omega (arith, ints, w.1)))
        (and_both (in_window row.window (x +ℤ negsuc 0)) _
        (window row.window a (and_left (in_window row.window x) _ (and_right (within (pos 0) capacity x) _ allowed)))
        (subst (λ l. IsTrue (list_all (λ interval. not (within interval.lo interval.hi (x +ℤ negsuc 0))) l)) (sym (none-of row.forbidden none)) refl))
      where
        window : (window : Option Interval) → (opening window +ℤ pos 1) ≤ℤ x → IsTrue (in_window window x) → IsTrue (in_window window (x +ℤ negsuc 0))
        window None a h = refl
        window (Some w) a h = let b = (within_is w.lo w.hi x h).1 in test_of_within w.lo w.hi (x +ℤ negsuc 0) (omega (arith, ints, a)) (omega (arith, ints, b))

    floor_low : (row : Option StopRow) → WherePresent IsStopRow row → IsTrue (forbids_none row) → (floor_of row +ℤ pos 1) ≤ℤ x → pos 1 ≤ℤ x
    floor_low None is none above = above
    floor_low (Some row) is none above = let a = above_opening row none above in let o = opens row is in omega (arith, ints, a, o)

    fixed : IsTrue (not dimension.fix_start) ⊎ IsTrue (is_same_number x (pos 0)) → IsTrue (not dimension.fix_start || is_same_number (x +ℤ negsuc 0) (pos 0))
    fixed (inl free) = or_left (not dimension.fix_start) _ free
    fixed (inr nothing) = absurd (let e = eq_of_tests x (pos 0) nothing in let l = floor_low row is none above in omega (arith, ints, e, l))

-- ---- the chosen schedule

sum-none : (f : ℕ → ℤ) (n : ℕ) → n ≡ 0 → total_by f (below n) ≡ pos 0
sum-none f n e = ap (λ m. total_by f (below m)) e

module _ (line : Line) (plan : Plan) (keeps : IsSchedule line plan)
    (no_breaks : line.breaks ≡ []) (some : 0 < length line.arcs) (stops : 0 < length line.allowed)
    (allowed : IsTrue (allows line 0 (cumul plan 0 +ℤ negsuc 0))) (room : (slack plan 0 +ℤ pos 1) ≤ℤ line.slack_max) where
  first : cumul (earlier plan) 0 ≡ cumul plan 0 +ℤ negsuc 0
  first = shifted-first plan.cumuls (negsuc 0) (omega (arith, keeps.cumul_of_each_stop, stops))

  first_slack : slack (earlier plan) 0 ≡ slack plan 0 +ℤ pos 1
  first_slack = shifted-first plan.slacks (pos 1) (omega (arith, keeps.slack_of_each_arc, some))

  none : (i : ℕ) → i < length line.breaks → ⊥
  none i low = let l = ap length no_breaks in omega (arith, low, l)

  earlier-keeps : IsSchedule line (earlier plan)
  earlier-keeps = record {
    cumul_of_each_stop = shifted-long plan.cumuls (negsuc 0) ∙ keeps.cumul_of_each_stop;
    slack_of_each_arc = shifted-long plan.slacks (pos 1) ∙ keeps.slack_of_each_arc;
    start_of_each_break = keeps.start_of_each_break;
    cumuls_allowed = cumuls;
    slacks_left = left;
    slacks_bounded = bounded;
    breaks_in_range = λ i low. absurd (none i low);
    breaks_in_order = λ i low. absurd (none (suc i) low);
    breaks_placed = λ i low. absurd (none i low);
    slacks_carry_breaks = λ k low. (let s = sum-none _ (length line.breaks) (ap length no_breaks) in let b = (bounded k low).0 in carry k s b);
  }
    where
      carry : (k : ℕ) → break_time line (earlier plan) k ≡ pos 0 → pos 0 ≤ℤ slack (earlier plan) k → break_time line (earlier plan) k ≤ℤ slack (earlier plan) k
      carry k e b = subst (λ t. t ≤ℤ slack (earlier plan) k) (sym e) b

      cumuls : (k : ℕ) → k < length line.allowed → IsTrue (allows line k (cumul (earlier plan) k))
      cumuls zero low = subst (λ x. IsTrue (allows line 0 x)) (sym first) allowed
      cumuls (suc k) low = subst (λ x. IsTrue (allows line (suc k) x)) (sym (shifted-rest plan.cumuls (negsuc 0) k)) (keeps.cumuls_allowed (suc k) low)

      left : (k : ℕ) → k < length line.arcs → slack (earlier plan) k ≡ (cumul (earlier plan) (suc k) -ℤ cumul (earlier plan) k) -ℤ (arc_at line k).transit
      left zero low =
          let s = keeps.slacks_left 0 low in
          let a = first in
          let b = first_slack in
          let c = shifted-rest plan.cumuls (negsuc 0) 0 in
          omega (arith, ints, s, a, b, c)
      left (suc k) low =
          let s = keeps.slacks_left (suc k) low in
          let a = shifted-rest plan.cumuls (negsuc 0) k in
          let b = shifted-rest plan.slacks (pos 1) k in
          let c = shifted-rest plan.cumuls (negsuc 0) (suc k) in
          omega (arith, ints, s, a, b, c)

      bounded : (k : ℕ) → k < length line.arcs → (pos 0 ≤ℤ slack (earlier plan) k) × (slack (earlier plan) k ≤ℤ line.slack_max)
      bounded zero low = (let h = (keeps.slacks_bounded 0 low).0 in let e = first_slack in (omega (arith, ints, h, e), omega (arith, ints, room, e)))
      bounded (suc k) low = subst (λ x. (pos 0 ≤ℤ x) × (x ≤ℤ line.slack_max)) (sym (shifted-rest plan.slacks (pos 1) k)) (keeps.slacks_bounded (suc k) low)

  -- a plan that could start earlier is not chosen
  pub not-least : ((other : Plan) → IsSchedule line other → IsTrue (is_no_later plan other)) → ⊥
  not-least least = not-before plan.cumuls plan.breaks (omega (arith, keeps.cumul_of_each_stop, stops)) (least (earlier plan) earlier-keeps)
