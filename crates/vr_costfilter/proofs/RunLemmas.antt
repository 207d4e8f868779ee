-- The runs of stops, and what is gone by them, are the same by whatever table they were looked up.
use Rattle.std.proofs.Common.{◌≡◌, ◌∙◌, ℕ, zero, suc, ◌+◌, ◌<◌, ◌≤◌, ◌⊎◌, inl, inr, List, [], ◌∷◌, ◌++◌, length, map, refl, sym, ap, ap₂, subst, arith, Option}
use Rattle.std.proofs.Common.{Some, None}
use Rattle.std.specs.Prelude.{ℤ, ◌+ℤ◌, ◌-ℤ◌, ◌≤ℤ◌, All, IsTrue, option_map, slice_index_or}
use Rattle.std.specs.Option.{option_and_then}
use Rattle.std.proofs.lemmas.Int.{ints, int_max_is}
use Rattle.std.proofs.lemmas.Option.{option_and_then_some}
use Rattle.vr_spans.specs.declared.runs.Run.{Run}
use Rattle.vr_spans.specs.Runs.{in_run}
use Rattle.vr_model.specs.tables.Tables.{dimension_at, is_visit, row_of, transit, vehicle_at}
use Rattle.vr_model.specs.schedules.Lines.{line}
use Rattle.vr_model.specs.declared.records.Model.{Model}
use Rattle.vr_model.proofs.schedules.LineArcs.{arcs_of_line, stops_of_line}
use Rattle.vr_model.proofs.routes.Lists.{visit_below}
use Rattle.vr_steps.proofs.LineLemmas.{visit_below as place_below}
use Rattle.vr_reach.specs.Lists.{IsTour}
use Rattle.vr_reach.specs.VisitRuns.{IsAllowedRun}
use Rattle.vr_reach.proofs.LineParts.{end_allows_run, visit_allows_run}
use Rattle.vr_costfilter.specs.Floors.{before, end_step, stop_floor, AreAimed, IsVisitStep}
use Rattle.vr_costfilter.specs.Runs.{Runs, AllowsRuns, AreRuns, no_run, run_at, stop_runs}
use Rattle.vr_costfilter.specs.Stages.{along, go_on, from_floor, setting_out, stage_at_start, to_end, visit_more}
use Rattle.vr_costfilter.specs.declared.guides.Stage.{Stage}
use Rattle.vr_costfilter.specs.declared.trails.Step.{Step}
use Rattle.vr_costfilter.proofs.FloorLemmas.{aimed-rest, before-had, floor-had}
use Rattle.vr_costfilter.proofs.StageLemmas.{gone}

-- ---- the runs of the stops of a list

map-at : (f : ℕ → Run) (list : List ℕ) (last : Run) (k : ℕ) → k < length list → run_at (map f list ++ last ∷ []) k ≡ f (slice_index_or list k 0)
map-at f [] last k low = absurd (omega (arith, low))
map-at f (x ∷ xs) last zero low = refl
map-at f (x ∷ xs) last (suc k) low = map-at f xs last k (omega (arith, low))

map-last : (f : ℕ → Run) (list : List ℕ) (last : Run) → run_at (map f list ++ last ∷ []) (length list) ≡ last
map-last f [] last = refl
map-last f (x ∷ xs) last = map-last f xs last

pub stop-visit : (runs : Runs) (list : List ℕ) (k : ℕ) → k < length list
    → run_at (stop_runs runs list) (suc k) ≡ slice_index_or runs.visits (slice_index_or list k 0) no_run
stop-visit runs list k low = map-at (λ node. slice_index_or runs.visits node no_run) list runs.finish k low

pub stop-last : (runs : Runs) (list : List ℕ) → run_at (stop_runs runs list) (suc (length list)) ≡ runs.finish
stop-last runs list = map-last (λ node. slice_index_or runs.visits node no_run) list runs.finish

-- the line of a list allows them
pub line-allows : (model : Model) (d v : ℕ) (runs : Runs) → AreRuns model d v runs
    → (list : List ℕ) → IsTour model list → AllowsRuns model d v runs list (line model d v list)
line-allows model d v runs are list tour = record {
  arcs = refl;
  slack_max = refl;
  has = record { stops = stops_of_line model d v list; no_breaks = are.no_breaks; each = each };
}
  where
    either : (k : ℕ) → suc k ≤ suc (length list) → (k < length list) ⊎ (k ≡ length list)
    either k le = Prim.grind arith

    each : (k : ℕ) → k ≤ length (line model d v list).arcs → IsAllowedRun (line model d v list) k (run_at (stop_runs runs list) k)
    each zero le = record { exact = are.start.exact; ends = are.start.ends }
    each (suc k) le = elim (either k (let n = arcs_of_line model d v list in omega (arith, n, le))) [
      | inl low ↦ (
          let known : slice_index_or list k 0 < length runs.visits =
          (let h = place_below model list k 0 tour.visits low in omega (arith, are.visits.long, h)) in
          let run : Run = slice_index_or runs.visits (slice_index_or list k 0) no_run in
          let there = visit_allows_run model d v list k runs.visits run no_run are.visits tour low known refl in
          let next : k + 1 ≡ suc k = omega arith in
          subst (IsAllowedRun (line model d v list) (suc k)) (sym (stop-visit runs list k low))
          (subst (λ i. IsAllowedRun (line model d v list) i run) next there))
      | inr last ↦ (
          let there = end_allows_run model d v list (length list) runs.finish are.finish refl in
          let next : length list + 1 ≡ suc (length list) = omega arith in
          let end : IsAllowedRun (line model d v list) (suc (length list)) (run_at (stop_runs runs list) (suc (length list))) =
          subst (IsAllowedRun (line model d v list) (suc (length list))) (sym (stop-last runs list))
          (subst (λ i. IsAllowedRun (line model d v list) i runs.finish) next there) in
          subst (λ i. IsAllowedRun (line model d v list) (suc i) (run_at (stop_runs runs list) (suc i))) (sym last) end)
    ]

-- ---- runs of the same numbers

inside : (r : Run) (x : ℤ) → r.lo ≤ℤ x → x ≤ℤ r.hi → IsTrue (in_run r x)
inside r x low high = grind (arith, ints, low, high)

above : (r : Run) (x : ℤ) → IsTrue (in_run r x) → r.lo ≤ℤ x
above r x there = grind (arith, ints, there)

under : (r : Run) (x : ℤ) → IsTrue (in_run r x) → x ≤ℤ r.hi
under r x there = grind (arith, ints, there)

-- two runs of the same numbers
abbrev SameNumbers : Run → Run → Type 0
SameNumbers r q = (x : ℤ) → in_run r x ≡ in_run q x

-- a run of some number is the only one of its numbers
pub run-same : (r q : Run) → SameNumbers r q → r.lo ≤ℤ r.hi → r ≡ q
run-same r q same some =
    let lo = inside r r.lo (omega (arith, ints)) some in
    let hi = inside r r.hi some (omega (arith, ints)) in
    let lo_too : IsTrue (in_run q r.lo) = sym (same r.lo) ∙ lo in
    let hi_too : IsTrue (in_run q r.hi) = sym (same r.hi) ∙ hi in
    let a = above q r.lo lo_too in
    let b = under q r.lo lo_too in
    let c = under q r.hi hi_too in
    let first : IsTrue (in_run r q.lo) = same q.lo ∙ inside q q.lo (omega (arith, ints)) (omega (arith, ints, a, b)) in
    let last : IsTrue (in_run r q.hi) = same q.hi ∙ inside q q.hi (omega (arith, ints, a, b)) (omega (arith, ints)) in
    let d = above r q.lo first in
    let e = under r q.hi last in
    ap₂ (λ (x y : ℤ). (let run : Run = record { lo = x; hi = y } in run)) (omega (arith, ints, a, d)) (omega (arith, ints, c, e))

-- a start from which a vehicle sets out allows some cumul
pub start-some : (model : Model) (d v : ℕ) (runs : Runs) (next : Step) (stage : Stage)
    → setting_out model d v runs next ≡ Some stage → runs.start.lo ≤ℤ runs.start.hi
start-some model d v runs next stage e = by (stop_floor model d v (vehicle_at model v).start runs.start next) refl e
  where
    by : (o : Option ℤ) → stop_floor model d v (vehicle_at model v).start runs.start next ≡ o
        → option_map (stage_at_start model d v) o ≡ Some stage → runs.start.lo ≤ℤ runs.start.hi
    by None is e = absurd (cc)
    by (Some it) is e =
        let t : ℤ = transit model d v (vehicle_at model v).start next.node in
        let s : ℤ = (dimension_at model d).slack_max in
        let floor = floor-had next.floor t s runs.start it is in
        let m = int_max_is ((next.floor -ℤ t) -ℤ s) runs.start.lo in
        omega (arith, ints, floor.is, floor.most, m)

-- so does an end to which it comes
pub end-some : (model : Model) (d v : ℕ) (runs : Runs) (o : Option Stage) (stage : Stage)
    → option_and_then (to_end model d v runs) o ≡ Some stage → runs.finish.lo ≤ℤ runs.finish.hi
end-some model d v runs o stage e = option_and_then_some (to_end model d v runs) o stage e (λ before there more.
    let t : ℤ = transit model d v before.at (vehicle_at model v).end in
    let is = gone t (dimension_at model d).slack_max (vehicle_at model v).end runs.finish (row_of (dimension_at model d).ends v) before stage more in
    let m = int_max_is (before.cumul +ℤ t) runs.finish.lo in
    omega (arith, ints, is.earliest.least, is.earliest.most, m))

-- and a visit to which a step leads
pub step-some : (model : Model) (d v : ℕ) (runs : Runs) (node : ℕ) (next step : Step) → before model d v runs node next ≡ Some step
    → (slice_index_or runs.visits node no_run).lo ≤ℤ (slice_index_or runs.visits node no_run).hi
step-some model d v runs node next step e =
    let allowed : Run = slice_index_or runs.visits node no_run in
    let t : ℤ = transit model d v node next.node in
    let s : ℤ = (dimension_at model d).slack_max in
    let floor = floor-had next.floor t s allowed step.floor (before-had model d v runs node next step e).floor in
    let m = int_max_is ((next.floor -ℤ t) -ℤ s) allowed.lo in
    omega (arith, ints, floor.is, floor.most, m)

module _ (model : Model) (d v : ℕ) (a b : Runs) (of_a : AreRuns model d v a) (of_b : AreRuns model d v b) where
  pub start-run : a.start.lo ≤ℤ a.start.hi → a.start ≡ b.start
  start-run some = run-same a.start b.start (λ x. of_a.start.exact x ∙ sym (of_b.start.exact x)) some

  pub finish-run : a.finish.lo ≤ℤ a.finish.hi → a.finish ≡ b.finish
  finish-run some = run-same a.finish b.finish (λ x. of_a.finish.exact x ∙ sym (of_b.finish.exact x)) some

  -- a visit that allows some cumul
  pub visit-run : (node : ℕ) → IsTrue (is_visit model node) → (slice_index_or a.visits node no_run).lo ≤ℤ (slice_index_or a.visits node no_run).hi
      → slice_index_or a.visits node no_run ≡ slice_index_or b.visits node no_run
  visit-run node visit some =
      let low = visit_below model node visit in
      let p = of_a.visits.each node no_run (omega (arith, low, of_a.visits.long)) visit in
      let q = of_b.visits.each node no_run (omega (arith, low, of_b.visits.long)) visit in
      run-same (slice_index_or a.visits node no_run) (slice_index_or b.visits node no_run) (λ x. p.exact x ∙ sym (q.exact x)) some

  -- the runs of the visits to which steps lead
  pub step-runs : (steps : List Step) (next : Step) → AreAimed model d v a steps next → All (IsVisitStep model) steps → (k : ℕ) → k < length steps
      → slice_index_or a.visits (slice_index_or steps k next).node no_run ≡ slice_index_or b.visits (slice_index_or steps k next).node no_run
  step-runs steps next aimed known k low =
      visit-run (slice_index_or steps k next).node (known k next low).visit
      (step-some model d v a (slice_index_or steps k next).node (slice_index_or steps (suc k) next) (slice_index_or steps k next) (aimed.each k low))

  pub same-aimed : (steps : List Step) (next : Step) → AreAimed model d v a steps next → All (IsVisitStep model) steps → AreAimed model d v b steps next
  same-aimed steps next aimed known = record {
    each = λ k low.
        sym (ap (λ r. option_map (λ (floor : ℤ). (let s : Step = record { node = (slice_index_or steps k next).node; floor = floor } in s))
        (stop_floor model d v (slice_index_or steps k next).node r (slice_index_or steps (suc k) next)))
        (step-runs steps next aimed known k low)) ∙ aimed.each k low;
  }

  pub same-along : (o : Option Stage) (steps : List Step) (next : Step) → AreAimed model d v a steps next
      → All (IsVisitStep model) steps → along model d v a o steps ≡ along model d v b o steps
  same-along o [] next aimed known = refl
  same-along o (x ∷ xs) next aimed known =
      ap (λ r. along model d v a (more r) xs) (step-runs (x ∷ xs) next aimed known 0 (omega arith))
      ∙ same-along (visit_more model d v b o x) xs next (aimed-rest model d v a x xs next aimed) (λ k e low. known (suc k) e (omega (arith, low)))
    where
      more : Run → Option Stage
      more r = option_and_then (λ (stage : Stage). go_on (transit model d v stage.at x.node)
          (dimension_at model d).slack_max x.node (from_floor x.floor r) (row_of (dimension_at model d).nodes x.node) stage) o

  pub same-out : a.start ≡ b.start → (next : Step) → setting_out model d v a next ≡ setting_out model d v b next
  same-out same next = ap (λ r. option_map (stage_at_start model d v) (stop_floor model d v (vehicle_at model v).start r next)) same

  pub same-end : a.finish ≡ b.finish → (o : Option Stage) → option_and_then (to_end model d v a) o ≡ option_and_then (to_end model d v b) o
  same-end same o = ap (λ r.
      option_and_then (λ (stage : Stage). go_on (transit model d v stage.at (vehicle_at model v).end)
      (dimension_at model d).slack_max (vehicle_at model v).end r (row_of (dimension_at model d).ends v) stage) o) same

  pub same-end-step : a.finish ≡ b.finish → end_step model v a ≡ end_step model v b
  same-end-step same = ap (λ (r : Run). (let s : Step = record { node = (vehicle_at model v).end; floor = r.lo } in s)) same
