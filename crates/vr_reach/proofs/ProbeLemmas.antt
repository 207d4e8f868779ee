-- What walks without a break tell of a line that has some.
use Rattle.std.proofs.Common.{ℕ, zero, suc, ◌+◌, ◌<◌, ◌≤◌, Bool, List, [], ◌∷◌, length, get_or, drop, ℤ, pos, ◌+ℤ◌, ◌≤ℤ◌, refl, sym, subst, inl, inr, arith}
use Rattle.std.specs.Prelude.{IsTrue}
use Rattle.std.proofs.lemmas.Bool.{or_cases, or_left, or_right}
use Rattle.std.proofs.lemmas.List.{drop_all, drop_more}
use Rattle.vr_spans.specs.declared.runs.Run.{Run}
use Rattle.vr_spans.specs.Runs.{has, in_run, IsNormalFrom, ShareANumber}
use Rattle.vr_model.specs.schedules.Lines.{Arc, Line}
use Rattle.vr_model.specs.schedules.Schedules.{Plan, Sides, KeepsRules, before_only, after_only, IsFeasible, IsReached, ReachesEnd}
use Rattle.vr_model.specs.schedules.SoundLines.{IsSound}
use Rattle.vr_model.specs.schedules.Levels.{FeasibleWhereLevelsMeet}
use Rattle.vr_model.specs.declared.records.BreakRow.{BreakRow}
use Rattle.vr_steps.specs.Levels.{level_at}
use Rattle.vr_steps.specs.Reached.{AreReachingEnd}
use Rattle.vr_reach.specs.Singles.{IsReachedRun}
use Rattle.vr_reach.proofs.SingleLemmas.{alone_in, in_alone}

-- a line of these stops and arcs with some breaks, and a plan without its breaks
abbrev with_breaks : List (ℤ → Bool) → List Arc → ℤ → List BreakRow → Line
with_breaks allowed arcs slack rows = record { allowed = allowed; arcs = arcs; slack_max = slack; breaks = rows }

abbrev without : Plan → Plan
without plan = record { cumuls = plan.cumuls; slacks = plan.slacks; breaks = [] }

-- a schedule with breaks is one without them
unbroken : (where_else : Sides) (allowed : List (ℤ → Bool)) (arcs : List Arc) (slack : ℤ) (rows : List BreakRow) (plan : Plan)
    → KeepsRules where_else (with_breaks allowed arcs slack rows) plan → KeepsRules where_else (with_breaks allowed arcs slack []) (without plan)
unbroken where_else allowed arcs slack rows plan m = record {
  cumul_of_each_stop = m.cumul_of_each_stop;
  slack_of_each_arc = m.slack_of_each_arc;
  cumuls_allowed = m.cumuls_allowed;
  slacks_left = m.slacks_left;
  slacks_bounded = m.slacks_bounded;
  start_of_each_break = refl;
  breaks_in_range = λ k lt. absurd (omega arith);
  breaks_in_order = λ k lt. absurd (omega arith);
  breaks_placed = λ k lt. absurd (omega arith);
  slacks_carry_breaks = λ k lt. (m.slacks_bounded k lt).0;
}

none_taken : (L : Line) (k b : ℕ) (x : ℤ) → IsReached L k b x → IsReached L k 0 x
none_taken L k b x (plan, rules, is) = (without plan, unbroken before_only _ _ _ _ plan rules, is)

all_taken : (L : Line) (k b : ℕ) (x : ℤ) → ReachesEnd L k b x → ReachesEnd L k (length L.breaks) x
all_taken L k b x (plan, rules, is) = (
  without plan,
  subst (λ rows. KeepsRules after_only (with_breaks (drop k L.allowed) (drop k L.arcs) L.slack_max rows) (without plan))
      (sym (drop_all (length L.breaks) L.breaks (omega arith))) (unbroken after_only _ _ _ _ plan rules),
  is,
)

module _ (meet : FeasibleWhereLevelsMeet) (L : Line) (sound : IsSound L) (k : ℕ)
    (le : k ≤ length L.arcs) (to : List (List Run)) (are : AreReachingEnd L k to) where
  -- what is reached with no break taken misses what is left with all taken
  pub refused : (run : Run) → IsReachedRun L k 0 run → (ShareANumber (run ∷ []) (level_at to (length L.breaks)) → ⊥) → IsFeasible L → ⊥
  refused run is apart feasible =
      let m = (meet L sound k le).0 feasible in
      apart (m.2, in_alone run m.2 (is.all refl m.2 (none_taken L k m.0 m.2 m.3)), (are (length L.breaks) (omega arith) m.2).1 (all_taken L k m.0 m.2 m.4))

  -- the same number of breaks is taken all the way
  pub accepted : (b : ℕ) → b ≤ length L.breaks → (run : Run) → IsReachedRun L k b run → ShareANumber (run ∷ []) (level_at to b) → IsFeasible L
  accepted b few run is (x, first, second) = (meet L sound k le).1 (b, few, x, is.reached x (alone_in run x first), (are b few x).0 second)

-- what holds of each number of the first of some runs, and of the rest
run_first : (set : List Run) (k : ℕ) (d : Run) → k < length set → (x : ℤ) → IsTrue (in_run (get_or set k d) x) → IsTrue (has set x)
run_first [] k d low x there = absurd (omega (arith, low))
run_first (r ∷ rs) zero d low x there = or_left (in_run r x) (has rs x) there
run_first (r ∷ rs) (suc k) d low x there = or_right (in_run r x) (has rs x) (run_first rs k d (omega (arith, low)) x there)

-- no run of a set in normal form is empty
pub in_order : (m : ℤ) (set : List Run) (k : ℕ) (d : Run) → IsNormalFrom m set → k < length set → (get_or set k d).lo ≤ℤ (get_or set k d).hi
in_order m [] k d normal low = absurd (omega (arith, low))
in_order m (r ∷ rs) zero d normal low = normal.1
in_order m (r ∷ rs) (suc k) d normal low = in_order (r.hi +ℤ pos 2) rs k d normal.3 (omega (arith, low))

-- what a run shares with one of a set, it shares with the set
pub shared_with_one : (run : Run) (set : List Run) (k : ℕ) (d : Run) → k < length set
    → ShareANumber (run ∷ []) (get_or set k d ∷ []) → ShareANumber (run ∷ []) set
shared_with_one run set k d low (x, first, second) = (x, first, run_first set k d low x (alone_in (get_or set k d) x second))

-- a run shares a number with what is left of a set, behind a run with which it shares none
pub shared_behind : (run : Run) (set : List Run) (k : ℕ) (d : Run) → k < length set → (ShareANumber (run ∷ []) (get_or set k d ∷ []) → ⊥)
    → ShareANumber (run ∷ []) (drop k set) → ShareANumber (run ∷ []) (drop (k + 1) set)
shared_behind run set k d low apart (x, first, second) =
    let other = get_or set k d in
    let here = subst (λ rs. IsTrue (has rs x)) (drop_more set k d low) second in
    elim (or_cases (in_run other x) (has (drop (k + 1) set) x) here) [
      | inl at ↦ absurd (apart (x, first, in_alone other x at))
      | inr later ↦ (x, first, later)
    ]
