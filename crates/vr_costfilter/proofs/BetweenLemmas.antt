-- A line whose start and end allow one cumul each, and its schedules.
use Rattle.std.proofs.Common.{◌≡◌, ◌∙◌, ◌≢◌, ℕ, zero, suc, ◌<◌, ◌≤◌, ◌⊎◌, inl, inr, Bool, true, false, List, length, refl, sym, ap, subst, arith}
use Rattle.std.specs.Prelude.{ℤ, pos, ◌&&◌, IsTrue, slice_index_or}
use Rattle.std.proofs.lemmas.Bool.{and_parts}
use Rattle.std.proofs.lemmas.Int.{ints}
use Rattle.std.proofs.lemmas.List.{get_or-set_other, get_or-set_same, length-set}
use Rattle.vr_spans.specs.Runs.{in_run}
use Rattle.vr_spans.specs.declared.runs.Run.{Run}
use Rattle.vr_model.specs.tables.Numbers.{horizon, is_same_number, within}
use Rattle.vr_model.specs.tables.WellFormed.{IsIn}
use Rattle.vr_model.specs.schedules.ChosenLaws.{pinned}
use Rattle.vr_model.specs.schedules.Lines.{Line}
use Rattle.vr_model.specs.schedules.Narrowed.{between}
use Rattle.vr_model.specs.schedules.Schedules.{Plan, IsSchedule, cumul}
use Rattle.vr_model.specs.schedules.Tight.{IsLatestStart}
use Rattle.vr_model.specs.declared.records.Model.{Model}
use Rattle.vr_model.proofs.schedules.Narrowing.{to_pinned}
use Rattle.vr_reach.specs.VisitRuns.{IsAllowedRun}
use Rattle.vr_costfilter.specs.Runs.{Runs, AllowsRuns, between_runs, only, run_at, stop_runs}
use Rattle.vr_costfilter.proofs.LeastLemmas.{arcs-many}
use Rattle.vr_costfilter.proofs.RunLemmas.{stop-last, stop-visit}

-- ---- one stop

-- a cumul of a schedule is within the horizon
pub cumul-in : (line : Line) (k : ℕ) (plan : Plan) → k < length line.allowed → IsSchedule line plan → IsIn (pos 0) horizon (cumul plan k)
cumul-in line k plan low s =
    let limits : IsTrue (within (pos 0) horizon (cumul plan k)) = (and_parts _ _ (s.cumuls_allowed k low)).0 in
    record { at_least = grind (arith, ints, limits); at_most = grind (arith, ints, limits) }

module _ (line : Line) (k : ℕ) (x : ℤ) (low : k < length line.allowed) where
  -- the other stops allow what they did
  other-allows : (i : ℕ) (run : Run) → i ≢ k → IsAllowedRun line i run → IsAllowedRun (pinned line k x) i run
  other-allows i run apart is = record {
    exact = λ y. is.exact y ∙ ap (λ (test : ℤ → Bool). test y)
        (sym (get_or-set_other line.allowed k i (λ y. slice_index_or line.allowed k (λ _. false) y && is_same_number x y) (λ _. false) apart));
    ends = is.ends;
  }

  -- the stop itself allows the cumul of a schedule
  module _ (plan : Plan) (s : IsSchedule line plan) (at : cumul plan k ≡ x) where
    there : IsTrue (slice_index_or line.allowed k (λ _. false) x)
    there =
        subst (λ y. IsTrue (slice_index_or line.allowed k (λ _. false) y)) at (and_parts (within (pos 0) horizon (cumul plan k)) _ (s.cumuls_allowed k low)).1

    one : (y : ℤ) → in_run (only x) y ≡ (slice_index_or line.allowed k (λ _. false) y && is_same_number x y)
    one y = by (is_same_number x y) refl
      where
        same : IsTrue (is_same_number x y) → x ≡ y
        same e = grind (arith, ints, e)

        both : (a : Bool) → IsTrue a → true ≡ (a && true)
        both a e = sym (ap (λ (b : Bool). b && true) e)

        none : (a : Bool) → false ≡ (a && false)
        none true = refl
        none false = refl

        by : (b : Bool) → is_same_number x y ≡ b → in_run (only x) y ≡ (slice_index_or line.allowed k (λ _. false) y && is_same_number x y)
        by true e =
            e ∙ both (slice_index_or line.allowed k (λ _. false) y) (subst (λ z. IsTrue (slice_index_or line.allowed k (λ _. false) z)) (same e) there)
            ∙ ap (λ (b : Bool). slice_index_or line.allowed k (λ _. false) y && b) (sym e)
        by false e = e ∙ none (slice_index_or line.allowed k (λ _. false) y) ∙ ap (λ (b : Bool). slice_index_or line.allowed k (λ _. false) y && b) (sym e)

    stop-allows : IsAllowedRun (pinned line k x) k (only x)
    stop-allows =
        let range = subst (IsIn (pos 0) horizon) at (cumul-in line k plan low s) in
        record {
          exact = λ y. one y ∙ ap (λ (test : ℤ → Bool). test y)
              (sym (get_or-set_same line.allowed k (λ y. slice_index_or line.allowed k (λ _. false) y && is_same_number x y) (λ _. false) low));
          ends = record { lo = range; hi = range };
        }

-- ---- the line of a list

module _ (model : Model) (d v : ℕ) (runs : Runs) (list : List ℕ) (L : Line)
    (by : AllowsRuns model d v runs list L) (s e : ℤ) (start : IsLatestStart L e s) where
  abbrev n : ℕ
  n = length L.arcs

  abbrev ending : Line
  ending = pinned L (length L.arcs) e

  abbrev plan : Plan
  plan = start.reached.0

  all-arcs : length L.arcs ≡ suc (length list)
  all-arcs = arcs-many model d v runs list L by

  end-low : length L.arcs < length L.allowed
  end-low = omega (arith, by.has.stops)

  as-many : length ending.allowed ≡ length L.allowed
  as-many = length-set L.allowed (length L.arcs) (λ y. slice_index_or L.allowed (length L.arcs) (λ _. false) y && is_same_number e y)

  start-low : 0 < length ending.allowed
  start-low = let m = as-many in let l = end-low in omega (arith, m, l)

  pub start-in : IsIn (pos 0) horizon s
  start-in = subst (IsIn (pos 0) horizon) start.reached.3 (cumul-in L 0 plan (let l = end-low in omega (arith, l)) start.reached.1)

  pub end-in : IsIn (pos 0) horizon e
  end-in = subst (IsIn (pos 0) horizon) start.reached.2 (cumul-in L (length L.arcs) plan end-low start.reached.1)

  first-allows : IsAllowedRun (between L s e) 0 (only s)
  first-allows = stop-allows ending 0 s start-low plan (to_pinned L (length L.arcs) e end-low plan start.reached.1 start.reached.2) start.reached.3

  last-allows : IsAllowedRun (between L s e) (length L.arcs) (only e)
  last-allows =
      other-allows ending 0 s start-low (length L.arcs) (only e) (λ same. absurd (let m = all-arcs in omega (arith, same, m)))
      (stop-allows L (length L.arcs) e end-low plan start.reached.1 start.reached.2)

  middle-allows : (k : ℕ) → suc k < length L.arcs → IsAllowedRun (between L s e) (suc k) (run_at (stop_runs runs list) (suc k))
  middle-allows k low =
      other-allows ending 0 s start-low (suc k) (run_at (stop_runs runs list) (suc k)) (λ same. absurd (omega (arith, same)))
      (other-allows L (length L.arcs) e end-low (suc k) (run_at (stop_runs runs list) (suc k))
      (λ same. absurd (omega (arith, same, low))) (by.has.each (suc k) (omega (arith, low))))

  -- the line between the ends allows the runs of visits, and of the ends these cumuls alone
  pub between-allows : AllowsRuns model d v (between_runs runs s e) list (between L s e)
  between-allows = record {
    arcs = by.arcs;
    slack_max = by.slack_max;
    has = record {
      stops = length-set ending.allowed 0 (λ y. slice_index_or ending.allowed 0 (λ _. false) y && is_same_number s y) ∙ as-many ∙ by.has.stops;
      no_breaks = by.has.no_breaks;
      each = each;
    };
  }
    where
      either : (k : ℕ) → suc k ≤ suc (length list) → (k < length list) ⊎ (k ≡ length list)
      either k le = Prim.grind arith

      each : (k : ℕ) → k ≤ length L.arcs → IsAllowedRun (between L s e) k (run_at (stop_runs (between_runs runs s e) list) k)
      each zero le = first-allows
      each (suc k) le = elim (either k (let m = all-arcs in omega (arith, m, le))) [
        | inl low ↦ subst (IsAllowedRun (between L s e) (suc k)) (stop-visit runs list k low ∙ sym (stop-visit (between_runs runs s e) list k low))
            (middle-allows k (let m = all-arcs in omega (arith, m, low)))
        | inr last ↦ (
            let end : IsAllowedRun (between L s e) (suc (length list)) (only e) = subst (λ i. IsAllowedRun (between L s e) i (only e)) all-arcs last-allows in
            let there = subst (IsAllowedRun (between L s e) (suc (length list))) (sym (stop-last (between_runs runs s e) list)) end in
            subst (λ i. IsAllowedRun (between L s e) (suc i) (run_at (stop_runs (between_runs runs s e) list) (suc i))) (sym last) there)
      ]
