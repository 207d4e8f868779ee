-- Along a line that is feasible a vehicle comes to its end: a schedule is nowhere before floors, and nowhere before the
-- vehicle.
use Rattle.std.proofs.Common.{◌≡◌, ◌∙◌, ℕ, zero, suc, ◌+◌, ◌-◌, ◌<◌, ◌≤◌, List, length, take, drop, add-one, refl, sym, ap, subst, arith, Option, Some, None}
use Rattle.std.specs.Prelude.{Bool, true, false, ℤ, pos, ◌+ℤ◌, ◌-ℤ◌, ◌≤ℤ◌, IsTrue, option_map, slice_index_or}
use Rattle.std.specs.Int.{int_max}
use Rattle.std.specs.Option.{option_and_then}
use Rattle.std.proofs.Math.Seq.{drop-cons}
use Rattle.std.proofs.lemmas.Bool.{and_parts}
use Rattle.std.proofs.lemmas.Int.{ints, int_max_is}
use Rattle.std.proofs.lemmas.List.{drop_all, get_or_past, take_all}
use Rattle.std.proofs.lemmas.List.Sums.{fold_more}
use Rattle.vr_spans.specs.declared.runs.Run.{Run}
use Rattle.vr_spans.specs.Runs.{in_run}
use Rattle.vr_model.specs.routes.Costs.{row_cost}
use Rattle.vr_model.specs.tables.Numbers.{horizon, within}
use Rattle.vr_model.specs.tables.Tables.{dimension_at, row_of, transit, vehicle_at}
use Rattle.vr_model.specs.declared.records.Model.{Model}
use Rattle.vr_model.specs.declared.records.StopRow.{StopRow}
use Rattle.vr_model.specs.schedules.Choices.{is_feasible}
use Rattle.vr_model.specs.schedules.Lines.{Line}
use Rattle.vr_model.specs.schedules.Schedules.{Plan, IsFeasible, IsSchedule, allows, arc_at, cumul}
use Rattle.vr_model.proofs.schedules.ChoiceLaws.{feasible_is}
use Rattle.vr_reach.specs.Lists.{node_at_stop}
use Rattle.vr_reach.specs.VisitRuns.{IsAllowedRun}
use Rattle.vr_reach.proofs.LineParts.{end_node}
use Rattle.vr_costfilter.specs.Floors.{end_step, first_step_or, first_step, floor_before, stop_floor}
use Rattle.vr_costfilter.specs.Runs.{Runs, AllowsRuns, no_run}
use Rattle.vr_costfilter.specs.Stages.{along, go_on, next_cumul, from_floor, setting_out, stage_at_start, to_end, to_visit, visit_more, along_to_end}
use Rattle.vr_costfilter.specs.Steps.{AreSteps}
use Rattle.vr_costfilter.specs.declared.guides.Stage.{Stage}
use Rattle.vr_costfilter.specs.declared.trails.Step.{Step}
use Rattle.vr_costfilter.proofs.FloorLemmas.{before-had, before-is, floor-had, floor-is, many-steps}
use Rattle.vr_costfilter.proofs.LeastLemmas.{arc-transit, arcs-many, end-allows, floors-least, node-behind, not-below, run-of, start-allows, step-node}
use Rattle.vr_costfilter.proofs.LeastLemmas.{visit-allows}
use Rattle.vr_costfilter.proofs.StageLemmas.{going}

-- what a stop allows is not above its run
not-above : (line : Line) (k : ℕ) (run : Run) (x : ℤ) → IsAllowedRun line k run → IsTrue (allows line k x) → x ≤ℤ run.hi
not-above line k run x is there =
    let inside : IsTrue (in_run run x) = is.exact x ∙ (and_parts (within (pos 0) horizon x) (slice_index_or line.allowed k (λ _. false) x) there).1 in
    grind (arith, ints, inside)

module _ (model : Model) (d v : ℕ) (runs : Runs) (list : List ℕ) (L : Line) (by : AllowsRuns model d v runs list L) (plan : Plan) (s : IsSchedule L plan) where
  abbrev slack : ℤ
  slack = (dimension_at model d).slack_max

  all-arcs : length L.arcs ≡ suc (length list)
  all-arcs = arcs-many model d v runs list L by

  allowed-at : (k : ℕ) → k ≤ suc (length list) → IsTrue (allows L k (cumul plan k))
  allowed-at k le = s.cumuls_allowed k (let n = all-arcs in omega (arith, by.has.stops, n, le))

  -- a stop has a floor, where the schedule is no earlier at the next one than its floor
  record HasFloor (node : ℕ) (allowed : Run) (next : Step) (k : ℕ) : Type 0 where
    pub floor : ℤ
    pub is : stop_floor model d v node allowed next ≡ Some floor
    pub least : floor ≤ℤ cumul plan k

  floor-there : (k : ℕ) (allowed : Run) (node : ℕ) (next : Step) → k ≤ length list → IsAllowedRun L k allowed
      → node ≡ node_at_stop model v list k → next.node ≡ node_at_stop model v list (k + 1)
      → next.floor ≤ℤ cumul plan (suc k) → HasFloor node allowed next k
  floor-there k allowed node next le is from to there =
      let n = all-arcs in
      let low : k < length L.arcs = omega (arith, n, le) in
      let t : ℤ = transit model d v node next.node in
      let it : ℤ = floor_before next.floor t slack allowed in
      let way = arc-transit model d v runs list L by k node next.node le from to in
      let here = not-below L k allowed (cumul plan k) is (allowed-at k (omega (arith, le))) in
      let most = not-above L k allowed (cumul plan k) is (allowed-at k (omega (arith, le))) in
      let left = s.slacks_left k low in
      let bound = (s.slacks_bounded k low).1 in
      let m = int_max_is ((next.floor -ℤ t) -ℤ slack) allowed.lo in
      let least : floor_before next.floor (transit model d v node next.node) slack allowed ≤ℤ cumul plan k =
      omega (arith, ints, m, way, here, left, bound, by.slack_max, there) in
      record { floor = it; is = floor-is next.floor t slack allowed it (record { is = refl; most = omega (arith, ints, least, most) }); least = least }

  -- the first of the steps to the visits from a place on, to which the schedule comes no earlier
  record HasFirst (k : ℕ) : Type 0 where
    pub step : Step
    pub is : first_step model d v runs (drop k list) (end_step model v runs) ≡ Some step
    pub node : step.node ≡ node_at_stop model v list (k + 1)
    pub least : step.floor ≤ℤ cumul plan (k + 1)

  firsts : (j k : ℕ) → j + k ≡ length list → HasFirst k
  firsts zero k at =
      let last : k ≡ length list = omega (arith, at) in
      record {
        step = end_step model v runs;
        is = ap (λ l. first_step model d v runs l (end_step model v runs)) (drop_all k list (omega (arith, last)));
        node = sym (end_node model v list k last);
        least = not-below L (k + 1) runs.finish (cumul plan (k + 1)) (end-allows model d v runs list L by k last) (allowed-at (k + 1) (omega (arith, last)));
      }
  firsts (suc j) k at =
      let low : k < length list = omega (arith, at) in
      let next = firsts j (suc k) (omega (arith, at)) in
      let node : ℕ = slice_index_or list k 0 in
      let f : suc k ≡ k + 1 = omega arith in
      let e : suc k + 1 ≡ suc (k + 1) = omega arith in
      let had = floor-there (k + 1) (slice_index_or runs.visits node no_run) node next.step (omega (arith, low))
      (visit-allows model d v runs list L by k low) (node-behind model d v runs list L by k low)
      (next.node ∙ ap (λ i. node_at_stop model v list (i + 1)) f) (subst (λ i. next.step.floor ≤ℤ cumul plan i) e next.least) in
      record {
        step = record { node = node; floor = had.floor };
        is = ap (λ l. first_step model d v runs l (end_step model v runs)) (drop-cons list k 0 low)
            ∙ ap (option_and_then (λ (n : Step). Rattle.vr_costfilter.specs.Floors.before model d v runs node n)) next.is
            ∙ before-is model d v runs node next.step had.floor had.is had.floor refl;
        node = node-behind model d v runs list L by k low;
        least = had.least;
      }

  pub begin-had : first_step model d v runs list (end_step model v runs) ≡ None → ⊥
  begin-had none = other (sym (firsts (length list) 0 (omega arith)).is ∙ none)
    where
      other : {step : Step} → Some step ≡ None → ⊥
      other e = Prim.cc

  -- ---- along the steps

  module _ (steps : List Step) (steps_are : AreSteps model d v runs list steps) where
    abbrev end : Step
    end = end_step model v runs

    abbrev step-at : ℕ → Step
    step-at k = slice_index_or steps k end

    -- a stage at stop k that is no later than the schedule, and from which the floor of the next stop can be met
    record Keeps (k : ℕ) (stage : Stage) : Type 0 where
      pub at : stage.at ≡ node_at_stop model v list k
      pub most : stage.cumul ≤ℤ cumul plan k
      pub meets :
          (((slice_index_or steps k (end_step model v runs)).floor -ℤ transit model d v stage.at (slice_index_or steps k (end_step model v runs)).node)
          -ℤ slack) ≤ℤ stage.cumul

    -- a stop behind it
    record GoesOn (k : ℕ) (node : ℕ) (floor : ℤ) (allowed : Run) (row : Option StopRow) (stage : Stage) : Type 0 where
      pub next : Stage
      pub is : go_on (transit model d v stage.at node) slack node (from_floor floor allowed) row stage ≡ Some next
      pub at : next.at ≡ node
      pub most : next.cumul ≤ℤ cumul plan (k + 1)
      pub least : floor ≤ℤ next.cumul

    goes-on : (k : ℕ) (stage : Stage) → k ≤ length list → stage.at ≡ node_at_stop model v list k
        → stage.cumul ≤ℤ cumul plan k → (node : ℕ) → node ≡ node_at_stop model v list (k + 1)
        → (allowed : Run) → IsAllowedRun L (k + 1) allowed → (floor : ℤ) → floor ≤ℤ cumul plan (k + 1)
        → ((floor -ℤ transit model d v stage.at node) -ℤ slack) ≤ℤ stage.cumul → (row : Option StopRow) → pos 0 ≤ℤ slack
        → GoesOn k node floor allowed row stage
    goes-on k stage le at most node to allowed is floor above meets row positive =
        let n = all-arcs in
        let low : k < length L.arcs = omega (arith, n, le) in
        let t : ℤ = transit model d v stage.at node in
        let x : ℤ = next_cumul stage.cumul t (from_floor floor allowed) in
        let way = arc-transit model d v runs list L by k stage.at node le at to in
        let hi = not-above L (k + 1) allowed (cumul plan (k + 1)) is (allowed-at (k + 1) (omega (arith, le))) in
        let left = subst (λ i. (cumul plan k +ℤ transit model d v stage.at node) ≤ℤ cumul plan i)
        (sym (add-one k)) (onward k low (transit model d v stage.at node) way) in
        let m = int_max_is (stage.cumul +ℤ t) floor in
        let no_later : next_cumul stage.cumul (transit model d v stage.at node) (from_floor floor allowed) ≤ℤ cumul plan (k + 1) =
        omega (arith, ints, m, left, most, above) in
        record {
          next = record { at = node; cumul = x; soft = stage.soft +ℤ row_cost row x };
          is = going t slack node (from_floor floor allowed) row stage x (stage.soft +ℤ row_cost row x)
              (record { least = refl; most = omega (arith, ints, no_later, hi); slack = omega (arith, ints, m, meets, positive) }) refl;
          at = refl;
          most = no_later;
          least = omega (arith, ints, m);
        }
      where
        onward : (k : ℕ) → k < length L.arcs → (t : ℤ) → t ≡ (arc_at L k).transit → (cumul plan k +ℤ t) ≤ℤ cumul plan (suc k)
        onward k low t way =
            let left = s.slacks_left k low in
            let none = (s.slacks_bounded k low).0 in
            omega (arith, ints, way, left, none)

    -- slacks may be 0
    slack-positive : pos 0 ≤ℤ slack
    slack-positive =
        let n = all-arcs in
        let two = s.slacks_bounded 0 (omega (arith, n)) in
        omega (arith, ints, two.0, two.1, by.slack_max)

    -- the stage at its start
    record Stands : Type 0 where
      pub stage : Stage
      pub out : setting_out model d v runs (first_step_or steps (end_step model v runs)) ≡ Some stage
      pub keeps : Keeps 0 stage

    stands : Stands
    stands =
        let first = floors-least model d v runs list L by steps steps_are plan s (length list) 0 (omega arith) in
        let node : ℕ = (vehicle_at model v).start in
        let next : Step = step-at 0 in
        let f : 0 + 1 ≡ suc 0 = omega arith in
        let had = floor-there 0 runs.start node next (omega arith) (start-allows model d v runs list L by)
        refl (step-node model d v runs list L by steps steps_are 0 (omega arith))
        (subst (λ i. next.floor ≤ℤ cumul plan i) f first) in
        let floor = floor-had next.floor (transit model d v node next.node) slack runs.start had.floor had.is in
        let m = int_max_is ((next.floor -ℤ transit model d v node next.node) -ℤ slack) runs.start.lo in
        record {
          stage = stage_at_start model d v had.floor;
          out = ap (option_map (stage_at_start model d v)) had.is;
          keeps = record { at = refl; most = had.least; meets = omega (arith, ints, floor.is, m) };
        }

    -- the stage at visit k
    record Comes (k : ℕ) : Type 0 where
      pub stage : Stage
      pub is : along model d v runs (setting_out model d v runs (first_step_or steps (end_step model v runs))) (take k steps) ≡ Some stage
      pub keeps : Keeps k stage

    comes : (k : ℕ) → k ≤ length list → Comes k
    comes zero le = record { stage = stands.stage; is = stands.out; keeps = stands.keeps }
    comes (suc k) le =
        let low : k < length list = omega (arith, le) in
        let n = many-steps model d v runs list steps steps_are in
        let there = comes k (omega (arith, low)) in
        let step : Step = step-at k in
        let behind : Step = step-at (suc k) in
        let out : Option Stage = setting_out model d v runs (first_step_or steps end) in
        let allowed : Run = slice_index_or runs.visits step.node no_run in
        let row : Option StopRow = row_of (dimension_at model d).nodes step.node in
        let node = step-node model d v runs list L by steps steps_are k (omega (arith, low)) in
        let is = before-had model d v runs step.node behind step (steps_are.aimed.each k (omega (arith, n, low))) in
        let floor = floor-had behind.floor (transit model d v step.node behind.node) slack allowed step.floor is.floor in
        let it = floor.is in
        let m = int_max_is ((behind.floor -ℤ transit model d v step.node behind.node) -ℤ slack) allowed.lo in
        let on = goes-on k there.stage (omega (arith, low)) there.keeps.at there.keeps.most step.node
        node allowed (run-of model d v runs list L by steps steps_are k end low) step.floor
        (floors-least model d v runs list L by steps steps_are plan s (length list - k) k (omega (arith, low))) there.keeps.meets row slack-positive in
        let least = on.least in
        record {
          stage = on.next;
          is = ap (λ i. along model d v runs out (take i steps)) (sym (add-one k))
              ∙ fold_more (visit_more model d v runs) out steps k end (omega (arith, low, n))
              ∙ ap (option_and_then (to_visit model d v runs step)) there.is ∙ on.is;
          keeps = record {
            at = on.at ∙ node ∙ ap (node_at_stop model v list) (add-one k);
            most = subst (λ i. on.next.cumul ≤ℤ cumul plan i) (add-one k) on.most;
            meets = subst (λ (i : ℕ). ((behind.floor -ℤ transit model d v i behind.node) -ℤ slack) ≤ℤ on.next.cumul) (sym on.at)
                (met behind.floor (transit model d v step.node behind.node) slack allowed.lo step.floor on.next.cumul it least);
          };
        }
      where
        met : (f t s lo it x : ℤ) → it ≡ int_max ((f -ℤ t) -ℤ s) lo → it ≤ℤ x → ((f -ℤ t) -ℤ s) ≤ℤ x
        met f t s lo it x is le = let m = int_max_is ((f -ℤ t) -ℤ s) lo in omega (arith, ints, is, le, m)

    pub whole-had : along_to_end model d v runs (setting_out model d v runs (first_step_or steps (end_step model v runs))) steps ≡ None → ⊥
    whole-had none =
        let there = comes (length list) (omega arith) in
        let n = many-steps model d v runs list steps steps_are in
        let out : Option Stage = setting_out model d v runs (first_step_or steps end) in
        let last : step-at (length list) ≡ end = get_or_past steps (length list) end (omega (arith, n)) in
        let node : ℕ = (vehicle_at model v).end in
        let f : length list + 1 ≡ suc (length list) = omega arith in
        let on = goes-on (length list) there.stage (omega arith) there.keeps.at there.keeps.most node
        (sym (end_node model v list (length list) refl)) runs.finish (end-allows model d v runs list L by (length list) refl) runs.finish.lo
        (not-below L (length list + 1) runs.finish (cumul plan (length list + 1))
        (end-allows model d v runs list L by (length list) refl) (allowed-at (length list + 1) (omega arith)))
        (subst (λ (x : Step). ((x.floor -ℤ transit model d v there.stage.at x.node) -ℤ slack) ≤ℤ there.stage.cumul) last there.keeps.meets)
        (row_of (dimension_at model d).ends v) slack-positive in
        other (sym
        (ap (option_and_then (to_end model d v runs)) (ap (along model d v runs out) (sym (take_all (length list) steps (omega (arith, n)))) ∙ there.is)
        ∙ on.is) ∙ none)
      where
        other : {stage : Stage} → Some stage ≡ None → ⊥
        other e = Prim.cc

-- a line that has no schedule
unfeasible : (L : Line) → (IsFeasible L → ⊥) → is_feasible L ≡ false
unfeasible L refuted = by (is_feasible L) refl
  where
    by : (b : Bool) → is_feasible L ≡ b → b ≡ false
    by false e = refl
    by true e = absurd (refuted (feasible_is L e))

-- where there is no way to the end, the line has none
pub begin-unfeasible : (model : Model) (d v : ℕ) (runs : Runs) (list : List ℕ) (L : Line)
    → AllowsRuns model d v runs list L → first_step model d v runs list (end_step model v runs) ≡ None → is_feasible L ≡ false
begin-unfeasible model d v runs list L by none = unfeasible L (λ f. begin-had model d v runs list L by f.0 f.1 none)

pub whole-unfeasible : (model : Model) (d v : ℕ) (runs : Runs) (list : List ℕ) (L : Line)
    → AllowsRuns model d v runs list L → (steps : List Step) → AreSteps model d v runs list steps
    → along_to_end model d v runs (setting_out model d v runs (first_step_or steps (end_step model v runs))) steps ≡ None → is_feasible L ≡ false
whole-unfeasible model d v runs list L by steps are none = unfeasible L (λ f. whole-had model d v runs list L by f.0 f.1 steps are none)
