-- A vehicle that comes to its end so has gone along its chosen schedule.
use Rattle.std.proofs.Common.{◌≡◌, ◌∙◌, ℕ, zero, suc, ◌+◌, ◌-◌, ◌*◌, ◌<◌, ◌≤◌, List, [], ◌∷◌, ◌++◌, length, map, take, get_or, refl, sym, ap, subst, add-one}
use Rattle.std.proofs.Common.{arith, to_z, of_z, w64, Option, Some, None}
use Rattle.std.specs.Prelude.{◌==◌, ℤ, pos, ◌+ℤ◌, ◌-ℤ◌, ◌≤ℤ◌, IsTrue, is_some, option_map, slice_index_or, true, unwrap_or}
use Rattle.std.specs.Int.{int_max}
use Rattle.std.specs.List.{zip}
use Rattle.std.proofs.lemmas.Bool.{and_parts}
use Rattle.std.proofs.lemmas.Int.{ints, int_max_is}
use Rattle.std.proofs.lemmas.List.{get_or_append_left, get_or_past, take_all}
use Rattle.std.proofs.lemmas.List.Sums.{fold_more}
use Rattle.std.proofs.lemmas.Option.{option_and_then_some}
use Rattle.vr_spans.specs.declared.runs.Run.{Run}
use Rattle.vr_model.specs.tables.Numbers.{horizon, number_at, total_by, within}
use Rattle.vr_model.specs.tables.Tables.{dimension_at, no_dimension, row_of, transit, vehicle_at}
use Rattle.vr_model.specs.tables.WellFormed.{IsIn, IsSoft, IsStopRow, IsWellFormed, WherePresent}
use Rattle.vr_model.specs.schedules.ChosenLaws.{ChosenIsLeast}
use Rattle.vr_model.specs.schedules.Lines.{Line, stop_rows}
use Rattle.vr_model.specs.schedules.Narrowed.{chosen_line}
use Rattle.vr_model.specs.schedules.Choices.{chosen, is_feasible}
use Rattle.vr_model.specs.schedules.Schedules.{Plan, IsSchedule, allows, arc_at, cumul}
use Rattle.vr_model.specs.routes.Costs.{no_plan, row_cost, soft_cost}
use Rattle.vr_model.specs.declared.records.Model.{Model}
use Rattle.vr_model.specs.declared.records.Soft.{Soft}
use Rattle.vr_model.specs.declared.records.StopRow.{StopRow}
use Rattle.vr_model.proofs.schedules.LinesSound.{found_is}
use Rattle.vr_reach.specs.Early.{AreChosen, AreEarly}
use Rattle.vr_reach.specs.Lists.{node_at_stop}
use Rattle.vr_reach.specs.VisitRuns.{IsAllowedRun}
use Rattle.vr_reach.proofs.EarlyLemmas.{at_new, early_chosen}
use Rattle.vr_reach.proofs.LineParts.{end_node}
use Rattle.vr_plan.specs.Bounds.{cumul_cost, IsAround}
use Rattle.vr_plan.specs.Timings.{chosen_plan_of, soft_of, IsTiming, IsTimingOf}
use Rattle.vr_plan.specs.declared.timings.Timing.{Timing}
use Rattle.vr_plan.proofs.BoundLemmas.{max-around, mul-around, mul-sign, read-cumul}
use Rattle.vr_costfilter.specs.Floors.{end_step, first_step_or, stop_floor}
use Rattle.vr_costfilter.specs.Steps.{AreSteps}
use Rattle.vr_costfilter.specs.Runs.{Runs, AllowsRuns, no_run}
use Rattle.vr_costfilter.specs.Stages.{along, from_floor, setting_out, stage_at_start, to_end, to_visit, visit_more, along_to_end}
use Rattle.vr_costfilter.specs.declared.guides.Stage.{Stage}
use Rattle.vr_costfilter.specs.declared.trails.Step.{Step}
use Rattle.vr_costfilter.proofs.FloorLemmas.{before-had, floor-had, many-steps, node-of}
use Rattle.vr_costfilter.proofs.LeastLemmas.{allowed-in, arc-transit, arcs-many, begin-least, end-allows, floors-least, run-of, start-allows, start-least}
use Rattle.vr_costfilter.proofs.LeastLemmas.{step-least, step-node}
use Rattle.vr_costfilter.proofs.StageLemmas.{gone, some-same, IsBehind}

-- what the chosen schedule of a list comes to, and its numbers
pub record IsTimed (model : Model) (d v : ℕ) (list : List ℕ) (timing : Timing) : Type 0 where
  pub is_timing : IsTiming model d v list timing
  pub range : IsTimingOf (length list + 2) timing

-- it has one, with this timing
pub record HasTiming (model : Model) (d v : ℕ) (list : List ℕ) (timing : Timing) : Type 0 where
  pub feasible : is_feasible (chosen_line model d v list) ≡ true
  pub timed : IsTimed model d v list timing

-- ---- what a cumul costs

-- what a stop costs: nothing negative, and not much
pub record IsCost (x : ℤ) : Type 0 where
  pub low : pos 0 ≤ℤ x
  pub high : x ≤ℤ pos cumul_cost

soft-range : (soft : Option Soft) (x : ℤ) → WherePresent IsSoft soft → IsIn (pos 0) horizon x → IsCost (soft_cost soft x)
soft-range None x is range = record { low = omega (arith, ints); high = omega (arith, ints) }
soft-range (Some soft) x is range =
    let b = is.bound_in_range in
    let c = is.coefficient_in_range in
    let y : IsAround 68719476736 (x -ℤ soft.bound) = record {
      low = omega (arith, ints, range.at_least, b.at_most);
      high = omega (arith, ints, range.at_most, b.at_least);
    } in
    let m = int_max_is (pos 0) (x -ℤ soft.bound) in
    let p = mul-around soft.coefficient (int_max (pos 0) (x -ℤ soft.bound)) 68719476736 c.at_least c.at_most (max-around (x -ℤ soft.bound) 68719476736 y) in
    record { low = mul-sign soft.coefficient (int_max (pos 0) (x -ℤ soft.bound)) c.at_least (omega (arith, ints, m)); high = omega (arith, ints, p.high) }

pub row-range : (row : Option StopRow) (x : ℤ) → WherePresent IsStopRow row → IsIn (pos 0) horizon x → IsCost (row_cost row x)
row-range None x is range = record { low = omega (arith, ints); high = omega (arith, ints) }
row-range (Some row) x is range = soft-range row.soft x is.soft_in_range range

abbrev sum_of : List (Option StopRow) → List ℤ → ℤ
sum_of rows cumuls = total_by (λ stop. row_cost stop.0 stop.1) (zip rows cumuls)

sum-none : (rows : List (Option StopRow)) → sum_of rows [] ≡ pos 0
sum-none [] = refl
sum-none (row ∷ rows) = refl

-- one cumul more
sum-more : (rows : List (Option StopRow)) (cumuls : List ℤ) (x : ℤ) → length cumuls < length rows
    → sum_of rows (cumuls ++ x ∷ []) ≡ sum_of rows cumuls +ℤ row_cost (slice_index_or rows (length cumuls) None) x
sum-more [] cumuls x low = absurd (omega (arith, low))
sum-more (row ∷ rows) [] x low = let none = sum-none rows in omega (arith, ints, none)
sum-more (row ∷ rows) (c ∷ cs) x low = let more = sum-more rows cs x (omega (arith, low)) in omega (arith, ints, more)

-- ---- the rows of stops

row-behind : (f : ℕ → Option StopRow) (list : List ℕ) (last : Option StopRow) (k : ℕ)
    → k < length list → slice_index_or (map f list ++ last ∷ []) k None ≡ f (get_or list k 0)
row-behind f [] last k low = absurd (omega (arith, low))
row-behind f (x ∷ xs) last zero low = refl
row-behind f (x ∷ xs) last (suc k) low = row-behind f xs last k (omega (arith, low))

row-last : (f : ℕ → Option StopRow) (list : List ℕ) (last : Option StopRow) → slice_index_or (map f list ++ last ∷ []) (length list) None ≡ last
row-last f [] last = refl
row-last f (x ∷ xs) last = row-last f xs last

rows-long : (f : ℕ → Option StopRow) (list : List ℕ) (last : Option StopRow) → length (map f list ++ last ∷ []) ≡ suc (length list)
rows-long f [] last = refl
rows-long f (x ∷ xs) last = ap suc (rows-long f xs last)

-- ---- stop by stop

module _ (model : Model) (well : IsWellFormed model) (d v : ℕ) (dimension : d < length model.dimensions) (runs : Runs) (list : List ℕ)
    (L : Line) (has : AllowsRuns model d v runs list L) (steps : List Step) (steps_are : AreSteps model d v runs list steps) where
  abbrev end : Step
  end = end_step model v runs

  -- there are least cumuls of the stops up to k, the last one and their cost as a stage tells it
  pub record Comes (first : ℤ) (k : ℕ) (stage : Stage) : Type 0 where
    pub cumuls : List ℤ
    pub early : AreEarly L k cumuls
    pub start : number_at cumuls 0 ≡ first
    pub last : number_at cumuls k ≡ stage.cumul
    pub at : stage.at ≡ node_at_stop model v list k
    pub soft : stage.soft ≡ soft_of (dimension_at model d) v list cumuls
    pub low : pos 0 ≤ℤ stage.soft
    pub high : stage.soft ≤ℤ pos (cumul_cost * (k + 1))

  starts-valid : (key : ℕ) → WherePresent IsStopRow (row_of (dimension_at model d).starts key)
  starts-valid key =
      found_is IsStopRow (λ row. row.key == key) (dimension_at model d).starts (well.each_dimension d no_dimension dimension).rows_of_starts.each_row

  nodes-valid : (key : ℕ) → WherePresent IsStopRow (row_of (dimension_at model d).nodes key)
  nodes-valid key =
      found_is IsStopRow (λ row. row.key == key) (dimension_at model d).nodes (well.each_dimension d no_dimension dimension).rows_of_visits.each_row

  ends-valid : (key : ℕ) → WherePresent IsStopRow (row_of (dimension_at model d).ends key)
  ends-valid key = found_is IsStopRow (λ row. row.key == key) (dimension_at model d).ends (well.each_dimension d no_dimension dimension).rows_of_ends.each_row

  begins : (stage : Stage) → setting_out model d v runs (first_step_or steps (end_step model v runs)) ≡ Some stage → Comes stage.cumul 0 stage
  begins stage e = by (stop_floor model d v (vehicle_at model v).start runs.start (first_step_or steps end)) refl e
    where
      row : Option StopRow
      row = row_of (dimension_at model d).starts v

      by : (o : Option ℤ) → stop_floor model d v (vehicle_at model v).start runs.start (first_step_or steps (end_step model v runs)) ≡ o
          → option_map (stage_at_start model d v) o ≡ Some stage → Comes stage.cumul 0 stage
      by None is e = absurd (cc)
      by (Some x) is e =
          let node : ℕ = (vehicle_at model v).start in
          let next : Step = first_step_or steps end in
          let floor = floor-had next.floor (transit model d v node next.node) (dimension_at model d).slack_max runs.start x is in
          let most = floor.most in
          let m = int_max_is ((next.floor -ℤ transit model d v node next.node) -ℤ (dimension_at model d).slack_max) runs.start.lo in
          let run = start-allows model d v runs list L has in
          let range : IsIn (pos 0) horizon x = record {
            at_least = omega (arith, ints, floor.is, m, run.ends.lo.at_least);
            at_most = omega (arith, ints, most, run.ends.hi.at_most);
          } in
          let costs = row-range row x (starts-valid v) range in
          let none = sum-none (map (row_of (dimension_at model d).nodes) list ++ row_of (dimension_at model d).ends v ∷ []) in
          let there = allowed-in L 0 runs.start x run (omega (arith, ints, floor.is, m)) most in
          subst (λ (s : Stage). Comes s.cumul 0 s) (some-same (stage_at_start model d v x) stage e) (record {
            cumuls = x ∷ [];
            early = begin-least L has.has.stops x there (start-least model d v runs list L has steps steps_are x is);
            start = refl;
            last = refl;
            at = refl;
            soft = omega (arith, ints, none);
            low = costs.low;
            high = omega (arith, ints, costs.high);
          })

  -- over the arc from stop k, to a floor below which no schedule comes to the next one
  over : (first : ℤ) (k : ℕ) (stage next : Stage) → k ≤ length list → Comes first k stage → (allowed : Run) → IsAllowedRun L (k + 1) allowed
      → (floor : ℤ) → allowed.lo ≤ℤ floor → ((plan : Plan) → IsSchedule L plan → floor ≤ℤ cumul plan (k + 1))
      → (row : Option StopRow) → WherePresent IsStopRow row
      → slice_index_or (stop_rows (dimension_at model d) v list) (k + 1) None ≡ row → (node : ℕ) → node ≡ node_at_stop model v list (k + 1)
      → IsBehind (transit model d v stage.at node) (dimension_at model d).slack_max node (from_floor floor allowed) row stage next → Comes first (k + 1) next
  over first k stage next le comes allowed is floor above none_before row valid at node to behind =
      let x : ℤ = next.cumul in
      let old : List ℤ = comes.cumuls in
      let many = comes.early.many in
      let least = behind.earliest.least in
      let most = behind.earliest.most in
      let slack = behind.earliest.slack in
      let m = int_max_is (stage.cumul +ℤ transit model d v stage.at node) floor in
      let range : IsIn (pos 0) horizon x = record {
        at_least = omega (arith, ints, least, m, is.ends.lo.at_least, above);
        at_most = omega (arith, ints, most, is.ends.hi.at_most);
      } in
      let costs = row-range row x valid range in
      let n = rows-long (row_of (dimension_at model d).nodes) list (row_of (dimension_at model d).ends v) in
      let next_row : slice_index_or (stop_rows (dimension_at model d) v list) (length old) None ≡ row =
      ap (λ i. slice_index_or (stop_rows (dimension_at model d) v list) i None) (many ∙ sym (add-one k)) ∙ at in
      let more = sum-more (stop_rows (dimension_at model d) v list) old x (omega (arith, many, n, le))
      ∙ ap (λ o. soft_of (dimension_at model d) v list old +ℤ row_cost o x) next_row in
      let there = allowed-in L (k + 1) allowed x is (omega (arith, ints, least, m, above)) most in
      record {
        cumuls = old ++ x ∷ [];
        early = subst (λ i. AreEarly L i (old ++ x ∷ [])) (sym (add-one k)) (step-least L has.has.stops k old comes.early x
            (subst (λ i. IsTrue (allows L i x)) (add-one k) there) (slack-left way comes.last least slack) (late way comes.last least));
        start = get_or_append_left old (x ∷ []) (pos 0) 0 (omega (arith, many)) ∙ comes.start;
        last = at_new old x (k + 1) (many ∙ sym (add-one k));
        at = behind.at ∙ to;
        soft = omega (arith, ints, behind.soft, comes.soft, more);
        low = omega (arith, ints, behind.soft, comes.low, costs.low);
        high = omega (arith, ints, behind.soft, comes.high, costs.high);
      }
    where
      t : ℤ
      t = transit model d v stage.at node

      way : transit model d v stage.at node ≡ (arc_at L k).transit
      way = arc-transit model d v runs list L has k stage.at node le comes.at to

      slack-left : t ≡ (arc_at L k).transit → number_at comes.cumuls k ≡ stage.cumul
          → next.cumul ≡ int_max (stage.cumul +ℤ t) floor → (next.cumul -ℤ (stage.cumul +ℤ t)) ≤ℤ (dimension_at model d).slack_max
          → IsIn (pos 0) L.slack_max ((next.cumul -ℤ number_at comes.cumuls k) -ℤ (arc_at L k).transit)
      slack-left way last least most =
          let m = int_max_is (stage.cumul +ℤ t) floor in
          record { at_least = omega (arith, ints, way, last, least, m); at_most = omega (arith, ints, way, last, most, has.slack_max) }

      late : t ≡ (arc_at L k).transit → number_at comes.cumuls k ≡ stage.cumul → next.cumul ≡ int_max (stage.cumul +ℤ t) floor
          → (plan : Plan) → IsSchedule L plan → next.cumul ≤ℤ cumul plan (suc k)
      late way last least plan s =
          let n = arcs-many model d v runs list L has in
          let low : k < length L.arcs = omega (arith, n, le) in
          let m = int_max_is (stage.cumul +ℤ t) floor in
          let left = s.slacks_left k low in
          let none = (s.slacks_bounded k low).0 in
          let first = comes.early.least plan s k (omega arith) in
          let there = subst (λ i. floor ≤ℤ cumul plan i) (add-one k) (none_before plan s) in
          omega (arith, ints, way, last, least, m, left, none, first, there)

  visits : (first : ℤ) (k : ℕ) (stage next : Stage) → k < length list → Comes first k stage
      → to_visit model d v runs (slice_index_or steps k (end_step model v runs)) stage ≡ Some next → Comes first (k + 1) next
  visits first k stage next low comes e =
      let step : Step = slice_index_or steps k end in
      let n = many-steps model d v runs list steps steps_are in
      let node = node-of model d v runs list steps steps_are k end low in
      let allowed : Run = slice_index_or runs.visits step.node no_run in
      let row : Option StopRow = row_of (dimension_at model d).nodes step.node in
      let is = before-had model d v runs step.node (slice_index_or steps (suc k) end) step (steps_are.aimed.each k (omega (arith, n, low))) in
      let behind : Step = slice_index_or steps (suc k) end in
      let floor = floor-had behind.floor (transit model d v step.node behind.node) (dimension_at model d).slack_max allowed step.floor is.floor in
      let m = int_max_is ((behind.floor -ℤ transit model d v step.node behind.node) -ℤ (dimension_at model d).slack_max) allowed.lo in
      over first k stage next (omega (arith, low)) comes allowed (run-of model d v runs list L has steps steps_are k end low)
      step.floor (omega (arith, ints, floor.is, m))
      (λ plan s. floors-least model d v runs list L has steps steps_are plan s (left k low) k (left-is k low)) row (nodes-valid step.node)
      (subst (λ i. slice_index_or (stop_rows (dimension_at model d) v list) i None ≡ row) (sym (add-one k))
      (row-behind (row_of (dimension_at model d).nodes) list (row_of (dimension_at model d).ends v) k low
      ∙ ap (row_of (dimension_at model d).nodes) (sym node)))
      step.node (step-node model d v runs list L has steps steps_are k (omega (arith, low)))
      (gone (transit model d v stage.at step.node) (dimension_at model d).slack_max step.node (from_floor step.floor allowed) row stage next e)
    where
      left : (k : ℕ) → k < length list → ℕ
      left k low = length list - k

      left-is : (k : ℕ) (low : k < length list) → (length list - k) + k ≡ length list
      left-is k low = omega (arith, low)

  ends : (first : ℤ) (stage next : Stage) → Comes first (length list) stage → to_end model d v runs stage ≡ Some next → Comes first (length list + 1) next
  ends first stage next comes e =
      let node : ℕ = (vehicle_at model v).end in
      let row : Option StopRow = row_of (dimension_at model d).ends v in
      over first (length list) stage next (omega arith) comes runs.finish (end-allows model d v runs list L has (length list) refl)
      runs.finish.lo (omega (arith, ints))
      (λ plan s. end-least plan (floors-least model d v runs list L has steps steps_are plan s 0 (length list) (omega arith))) row (ends-valid v)
      (subst (λ i. slice_index_or (stop_rows (dimension_at model d) v list) i None ≡ row)
      (sym (add-one (length list))) (row-last (row_of (dimension_at model d).nodes) list row))
      node (sym (end_node model v list (length list) refl))
      (gone (transit model d v stage.at node) (dimension_at model d).slack_max node runs.finish row stage next e)
    where
      end-least : (plan : Plan) → (slice_index_or steps (length list) (end_step model v runs)).floor ≤ℤ cumul plan (length list + 1)
          → runs.finish.lo ≤ℤ cumul plan (length list + 1)
      end-least plan h = subst (λ (x : Step). x.floor ≤ℤ cumul plan (length list + 1))
          (get_or_past steps (length list) end (let n = many-steps model d v runs list steps steps_are in omega (arith, n))) h

  comes-to : (first : Stage) → setting_out model d v runs (first_step_or steps (end_step model v runs)) ≡ Some first
      → (k : ℕ) → k ≤ length list → (stage : Stage)
      → along model d v runs (setting_out model d v runs (first_step_or steps (end_step model v runs))) (take k steps) ≡ Some stage → Comes first.cumul k stage
  comes-to first out zero le stage e = subst (λ (s : Stage). Comes first.cumul 0 s) (some-same first stage (sym out ∙ e)) (begins first out)
  comes-to first out (suc k) le stage e =
      let low : k < length list = omega (arith, le) in
      let step : Step = slice_index_or steps k end in
      let n = many-steps model d v runs list steps steps_are in
      let split = sym (fold_more (visit_more model d v runs) (setting_out model d v runs (first_step_or steps end)) steps k end (omega (arith, low, n)))
      ∙ ap (λ n. along model d v runs (setting_out model d v runs (first_step_or steps end)) (take n steps)) (add-one k) ∙ e in
      subst (λ n. Comes first.cumul n stage) (add-one k)
      (option_and_then_some (to_visit model d v runs step)
      (along model d v runs (setting_out model d v runs (first_step_or steps end)) (take k steps)) stage split
      (λ before told more. visits first.cumul k before stage low (comes-to first out k (omega (arith, low)) before told) more))

  -- at the end it has the timing of the chosen schedule, where this is that of the line
  module _ (law : ChosenIsLeast) (is : chosen_line model d v list ≡ L) (first last : Stage)
      (out : setting_out model d v runs (first_step_or steps (end_step model v runs)) ≡ Some first)
      (told : along_to_end model d v runs (setting_out model d v runs (first_step_or steps (end_step model v runs))) steps ≡ Some last) where
    comes : Comes first.cumul (length list + 1) last
    comes = option_and_then_some (to_end model d v runs) (along model d v runs (setting_out model d v runs (first_step_or steps end)) steps) last told
        (λ before there more. ends first.cumul before last (comes-to first out (length list) (omega arith) before
        (ap (along model d v runs (setting_out model d v runs (first_step_or steps end)))
        (take_all (length list) steps (let n = many-steps model d v runs list steps steps_are in omega (arith, n))) ∙ there)) more)

    chosen-are : AreChosen L comes.cumuls
    chosen-are =
        let all : length list + 1 ≡ length L.arcs = (let n = arcs-many model d v runs list L has in omega (arith, n)) in
        early_chosen L has.has.stops has.has.no_breaks comes.cumuls (subst (λ k. AreEarly L k comes.cumuls) all comes.early) law

    line-feasible : is_feasible L ≡ true
    line-feasible = ap is_some chosen-are.is_chosen

    cumuls-are : (chosen_plan_of model d v list).cumuls ≡ comes.cumuls
    cumuls-are = ap (λ (l : Line). (unwrap_or (chosen l) no_plan).cumuls) is ∙ ap (λ o. (unwrap_or o no_plan).cumuls) chosen-are.is_chosen ∙ chosen-are.of_plan

    -- each of its cumuls is within the horizon
    in-range : (k : ℕ) → k ≤ length list + 1 → IsIn (pos 0) horizon (number_at comes.cumuls k)
    in-range k le =
        let limits : IsTrue (within (pos 0) horizon (number_at comes.cumuls k)) = (and_parts _ _ (comes.early.allowed k le)).0 in
        record { at_least = grind (arith, ints, limits); at_most = grind (arith, ints, limits) }

    -- the numbers of the stage at the end
    pub soft-low : pos 0 ≤ℤ last.soft
    soft-low = comes.low

    pub soft-high : last.soft ≤ℤ pos (cumul_cost * (length list + 2))
    soft-high = omega (arith, ints, comes.high)

    pub last-range : IsIn (pos 0) horizon last.cumul
    last-range = subst (IsIn (pos 0) horizon) comes.last (in-range (length list + 1) (omega arith))

    pub first-range : IsIn (pos 0) horizon first.cumul
    first-range = subst (IsIn (pos 0) horizon) comes.start (in-range 0 (omega arith))

    is-timing : (timing : Timing) → timing.soft ≡ last.soft → timing.start ≡ first.cumul → timing.last ≡ last.cumul → IsTiming model d v list timing
    is-timing timing soft start end = record {
      soft = soft ∙ comes.soft ∙ ap (soft_of (dimension_at model d) v list) (sym cumuls-are);
      start = start ∙ sym comes.start ∙ ap (λ xs. number_at xs 0) (sym cumuls-are);
      last = end ∙ sym comes.last ∙ ap (number_at comes.cumuls) (add-one (length list)) ∙ ap (λ xs. number_at xs (suc (length list))) (sym cumuls-are);
    }

    timing-range : (timing : Timing) → timing.soft ≡ last.soft → timing.start ≡ first.cumul → timing.last ≡ last.cumul → IsTimingOf (length list + 2) timing
    timing-range timing soft start end =
        let low = comes.low in
        record {
          not_negative = subst (λ x. pos 0 ≤ℤ x) (sym soft) low;
          bound = omega (arith, ints, soft, comes.high);
          start_in_range = subst (IsIn (pos 0) horizon) (sym start) first-range;
          last_in_range = subst (IsIn (pos 0) horizon) (sym end) last-range;
        }

    -- it is the timing that is read, the start by another name
    module _ (few : length list ≤ 1000) (start : ℤ) (start_is : start ≡ first.cumul) where
      soft-read : to_z w64 (of_z w64 last.soft) ≡ last.soft
      soft-read = let a = soft-low in let b = soft-high in omega (arith, ints, a, b, few)

      last-read : to_z w64 (of_z w64 last.cumul) ≡ last.cumul
      last-read = read-cumul last.cumul last-range

      start-read : to_z w64 (of_z w64 start) ≡ first.cumul
      start-read = ap (λ x. to_z w64 (of_z w64 x)) start_is ∙ read-cumul first.cumul first-range

      pub timed : HasTiming model d v list
          (record { soft = to_z w64 (of_z w64 last.soft); start = to_z w64 (of_z w64 start); last = to_z w64 (of_z w64 last.cumul) })
      timed = record {
        feasible = ap is_feasible is ∙ line-feasible;
        timed = record { is_timing = is-timing _ soft-read start-read last-read; range = timing-range _ soft-read start-read last-read };
      }
