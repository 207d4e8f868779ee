-- The narrowed line: its schedules are those that end first and then start last.
use Rattle.std.proofs.Common.{◌≡◌, ◌∙◌, ℕ, ◌<◌, sym, ap₂, arith, length}
use Rattle.std.specs.Prelude.{ℤ, pos, ◌≤ℤ◌, slice_index_or, ◌&&◌, false}
use Rattle.std.proofs.lemmas.Int.{ints}
use Rattle.std.proofs.lemmas.List.{length-set}
use Rattle.vr_model.specs.tables.Numbers.{horizon, is_same_number}
use Rattle.vr_model.specs.schedules.Lines.{Line}
use Rattle.vr_model.specs.schedules.Schedules.{Plan, IsSchedule, IsFeasible, cumul}
use Rattle.vr_model.specs.schedules.ChosenLaws.{pinned}
use Rattle.vr_model.proofs.schedules.Narrowing.{to_pinned, of_pinned}
use Rattle.vr_model.specs.schedules.Tight.{end_of, IsLeastEnd, IsLatestStart}
use Rattle.vr_model.specs.schedules.Narrowed.{before_horizon, between, ending_first, latest_start, least_end, narrowed}
use Rattle.vr_model.specs.declared.records.ScheduleRule.TheVariants.{Tight}
use Rattle.vr_model.specs.schedules.RuleLaws.{HasStops}
use Rattle.vr_model.proofs.schedules.Measures.{cumul-range, least-is}

pub end-unique : (line : Line) (e f : ℤ) → IsLeastEnd line e → IsLeastEnd line f → e ≡ f
end-unique line e f one other =
    let a = one.least other.reached.0 other.reached.1 in
    let b = other.least one.reached.0 one.reached.1 in
    let c = one.reached.2 in
    let d = other.reached.2 in
    omega (arith, ints, a, b, c, d)

pub start-unique : (line : Line) (e f s t : ℤ) → e ≡ f → IsLatestStart line e s → IsLatestStart line f t → s ≡ t
start-unique line e f s t same one other =
    let a = one.greatest other.reached.0 other.reached.1 (other.reached.2 ∙ sym same) in
    let b = other.greatest one.reached.0 one.reached.1 (one.reached.2 ∙ same) in
    let c = one.reached.3 in
    let d = other.reached.3 in
    omega (arith, ints, a, b, c, d)

module _ (line : Line) (stops : HasStops line) where
  at-end : length line.arcs < length line.allowed
  at-end = omega (arith, stops)

  -- narrowing keeps the number of stops
  pub as-many : (k : ℕ) (x : ℤ) → length (pinned line k x).allowed ≡ length line.allowed
  as-many k x = length-set line.allowed k (λ y. slice_index_or line.allowed k (λ _. false) y && is_same_number x y)

  pub end-range : (plan : Plan) → IsSchedule line plan → (pos 0 ≤ℤ end_of line plan) × (end_of line plan ≤ℤ horizon)
  end-range plan s = cumul-range line (length line.arcs) at-end plan s

  pub start-range : (plan : Plan) → IsSchedule line plan → (pos 0 ≤ℤ before_horizon plan) × (before_horizon plan ≤ℤ horizon)
  start-range plan s =
      let r = cumul-range line 0 (omega (arith, stops)) plan s in
      let low = r.0 in
      let high = r.1 in
      (omega (arith, ints, high), omega (arith, ints, low))

  -- ---- between two cumuls

  module _ (s e : ℤ) where
    E-stops : HasStops (pinned line (length line.arcs) e)
    E-stops = as-many (length line.arcs) e ∙ stops

    start-there : 0 < length (pinned line (length line.arcs) e).allowed
    start-there = let n = E-stops in omega (arith, n)

    pub to-between : (plan : Plan) → IsSchedule line plan → cumul plan 0 ≡ s → end_of line plan ≡ e → IsSchedule (between line s e) plan
    to-between plan sch start end =
        to_pinned (pinned line (length line.arcs) e) 0 s start-there plan (to_pinned line (length line.arcs) e at-end plan sch end) start

    pub of-between : (plan : Plan) → IsSchedule (between line s e) plan → IsSchedule line plan × (cumul plan 0 ≡ s) × (end_of line plan ≡ e)
    of-between plan sch =
        let first = of_pinned (pinned line (length line.arcs) e) 0 s start-there plan sch in
        let second = of_pinned line (length line.arcs) e at-end plan first.0 in
        (second.0, first.1, second.1)

  -- ---- the least end, and the latest start with it

  pub end-is : IsFeasible line → IsLeastEnd line (least_end line)
  end-is feasible =
      let m = least-is (end_of line) line end-range feasible in
      record { reached = m.reached; least = m.least }

module _ (line : Line) (stops : HasStops line) (feasible : IsFeasible line) where
  E-feasible : IsFeasible (ending_first line)
  E-feasible =
      let r = (end-is line stops feasible).reached in
      (r.0, to_pinned line (length line.arcs) (least_end line) (at-end line stops) r.0 r.1 r.2)

  E-has : HasStops (ending_first line)
  E-has = as-many line stops (length line.arcs) (least_end line) ∙ stops

  pub start-is : IsLatestStart line (least_end line) (latest_start (ending_first line))
  start-is =
      let m = least-is before_horizon (ending_first line) (start-range (ending_first line) E-has) E-feasible in
      let r = m.reached in
      let of = of_pinned line (length line.arcs) (least_end line) (at-end line stops) r.0 r.1 in
      let at = r.2 in
      record {
        reached = (r.0, of.0, of.1, omega (arith, ints, at));
        greatest = λ other sch end.
            (let le = m.least other (to_pinned line (length line.arcs) (least_end line) (at-end line stops) other sch end) in omega (arith, ints, le));
      }

  pub narrowed-is : (s e : ℤ) → IsLeastEnd line e → IsLatestStart line e s → narrowed Tight line ≡ between line s e
  narrowed-is s e end start =
      let e-same = end-unique line (least_end line) e (end-is line stops feasible) end in
      let s-same = start-unique line (least_end line) e (latest_start (ending_first line)) s e-same start-is start in
      ap₂ (between line) s-same e-same
