-- The levels of the first and of the last stop.
use Rattle.std.proofs.Common.{◌≡◌, ℕ, zero, suc, ◌<◌, ◌⊎◌, true, false, ◌&&◌, List, [], ◌∷◌, length, take, drop, refl, sym, ◌∙◌, ap, subst, inl, inr, arith}
use Rattle.std.proofs.Common.{◌+◌}
use Rattle.std.specs.Prelude.{ℤ, ◌≤ℤ◌, int_le, IsTrue}
use Rattle.vr_model.specs.tables.Numbers.{number_at}
use Rattle.vr_model.specs.schedules.Lines.{Line}
use Rattle.vr_model.specs.schedules.Schedules.{Plan, Sides, before_only, after_only, KeepsRules, IsReached, ReachesEnd, front, back, cumul, allows, break_start}
use Rattle.vr_model.specs.schedules.Schedules.{break_end, is_before, is_after, is_inside}
use Rattle.vr_model.specs.schedules.Levels.{AreStarts, FitBefore, FitAfter, ReachedAtStart, ReachedAtEnd}
use Rattle.vr_model.specs.deciding.Testing.{le_of_test, test_of_le}
use Rattle.vr_model.proofs.schedules.LineParts.{allows_front, allows_back, arcs_front, stops_front, arcs_back, stops_back}

-- a plan with one stop
abbrev at_one_stop : ℤ → List ℤ → Plan
at_one_stop x starts = record { cumuls = x ∷ []; slacks = []; breaks = starts }

no_false : {A : Type 0} → IsTrue false → A
no_false h = absurd (clash h)
  where
    clash : false ≡ true → ⊥
    clash e = Prim.cc

-- such a plan keeps the rules of a line of one stop that allows x, where each break is placed before x or after it
one_stop : (sides : Sides) (line : Line) (x : ℤ) (starts : List ℤ) → length line.arcs ≡ 0
    → length line.allowed ≡ 1 → IsTrue (allows line 0 x) → AreStarts line.breaks starts
    → ((i : ℕ) → i < length line.breaks
    → IsTrue (sides.may_precede && is_before line (at_one_stop x starts) i) ⊎ IsTrue (sides.may_follow && is_after line (at_one_stop x starts) i)
    ⊎ (k : ℕ) × (k < length line.arcs) × IsTrue (is_inside line (at_one_stop x starts) i k))
    → KeepsRules sides line (at_one_stop x starts)
one_stop sides line x starts arcs stops allowed are placed = record {
  cumul_of_each_stop = sym stops;
  slack_of_each_arc = sym arcs;
  start_of_each_break = are.one_of_each;
  cumuls_allowed = λ k low. first k (omega (arith, low, stops));
  slacks_left = λ k low. absurd (omega (arith, low, arcs));
  slacks_bounded = λ k low. absurd (omega (arith, low, arcs));
  breaks_in_range = are.in_range;
  breaks_in_order = are.in_order;
  breaks_placed = placed;
  slacks_carry_breaks = λ k low. absurd (omega (arith, low, arcs));
}
  where
    first : (k : ℕ) → k < 1 → IsTrue (allows line k (cumul (at_one_stop x starts) k))
    first zero low = allowed
    first (suc k) low = absurd (omega (arith, low))

pub reached_at_start : ReachedAtStart
reached_at_start line sound b few x = (there, onward)
  where
    arcs : length (front line 0 b).arcs ≡ 0
    arcs = arcs_front line 0 b (omega arith)

    stops : length (front line 0 b).allowed ≡ 1
    stops = stops_front line 0 b (let s = sound.stops in omega (arith, s))

    there : IsReached line 0 b x → IsTrue (allows line 0 x) × FitBefore (take b line.breaks) x
    there r = (
      subst (λ y. IsTrue (allows line 0 y)) r.2 (sym (allows_front line 0 b 0 (cumul r.0 0) (omega arith)) ∙ r.1.cumuls_allowed 0 (omega (arith, stops))),
      (
        r.0.breaks,
        record { one_of_each = r.1.start_of_each_break; in_range = r.1.breaks_in_range; in_order = r.1.breaks_in_order },
        λ i low. before i (r.1.breaks_placed i low),
      ),
    )
      where
        before : (i : ℕ) → IsTrue (true && is_before (front line 0 b) r.0 i) ⊎ IsTrue (false && is_after (front line 0 b) r.0 i)
            ⊎ (k : ℕ) × (k < length (front line 0 b).arcs) × IsTrue (is_inside (front line 0 b) r.0 i k)
            → break_end (front line 0 b) r.0 i ≤ℤ x
        before i (inl t) = subst (λ y. break_end (front line 0 b) r.0 i ≤ℤ y) r.2 (le_of_test (break_end (front line 0 b) r.0 i) (cumul r.0 0) t)
        before i (inr (inl t)) = no_false t
        before i (inr (inr t)) = absurd (let l = t.1 in omega (arith, l, arcs))

    onward : IsTrue (allows line 0 x) × FitBefore (take b line.breaks) x → IsReached line 0 b x
    onward f = (
      at_one_stop x f.1.0,
      one_stop before_only (front line 0 b) x f.1.0 arcs stops (allows_front line 0 b 0 x (omega arith) ∙ f.0) f.1.1
          (λ i low. inl (test_of_le (break_end (front line 0 b) (at_one_stop x f.1.0) i) x (f.1.2 i low))),
      refl,
    )

pub reached_at_end : ReachedAtEnd
reached_at_end line sound b few x = (there, onward)
  where
    last : ℕ
    last = length line.arcs

    arcs : length (back line (length line.arcs) b).arcs ≡ 0
    arcs = let n = arcs_back line (length line.arcs) b in omega (arith, n)

    stops : length (back line (length line.arcs) b).allowed ≡ 1
    stops = let n = stops_back line (length line.arcs) b in let s = sound.stops in omega (arith, n, s)

    here : (y : ℤ) → allows (back line (length line.arcs) b) 0 y ≡ allows line (length line.arcs) y
    here y = let e : length line.arcs + 0 ≡ length line.arcs = omega arith in allows_back line (length line.arcs) b 0 y ∙ ap (λ k. allows line k y) e

    there : ReachesEnd line (length line.arcs) b x → IsTrue (allows line (length line.arcs) x) × FitAfter (drop b line.breaks) x
    there r = (
      subst (λ y. IsTrue (allows line (length line.arcs) y)) r.2 (sym (here (cumul r.0 0)) ∙ r.1.cumuls_allowed 0 (omega (arith, stops))),
      (
        r.0.breaks,
        record { one_of_each = r.1.start_of_each_break; in_range = r.1.breaks_in_range; in_order = r.1.breaks_in_order },
        λ i low. after i (r.1.breaks_placed i low),
      ),
    )
      where
        after : (i : ℕ) → IsTrue (false && is_before (back line (length line.arcs) b) r.0 i) ⊎ IsTrue (true && is_after (back line (length line.arcs) b) r.0 i)
            ⊎ (k : ℕ) × (k < length (back line (length line.arcs) b).arcs) × IsTrue (is_inside (back line (length line.arcs) b) r.0 i k)
            → x ≤ℤ break_start r.0 i
        after i (inl t) = no_false t
        after i (inr (inl t)) = subst (λ y. y ≤ℤ break_start r.0 i) (ap (cumul r.0) arcs ∙ r.2)
            (le_of_test (cumul r.0 (length (back line (length line.arcs) b).arcs)) (break_start r.0 i) t)
        after i (inr (inr t)) = absurd (let l = t.1 in omega (arith, l, arcs))

    onward : IsTrue (allows line (length line.arcs) x) × FitAfter (drop b line.breaks) x → ReachesEnd line (length line.arcs) b x
    onward f = (
      at_one_stop x f.1.0,
      one_stop after_only (back line (length line.arcs) b) x f.1.0 arcs stops (here x ∙ f.0) f.1.1
          (λ i low. inr (inl (ap (λ k. int_le (cumul (at_one_stop x f.1.0) k) (number_at f.1.0 i)) arcs ∙ test_of_le x (number_at f.1.0 i) (f.1.2 i low)))),
      refl,
    )
