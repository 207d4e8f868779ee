-- No schedule is earlier than floors, and than the cumuls that are found by them.
use Rattle.std.proofs.Common.{◌≡◌, ◌∙◌, ℕ, zero, suc, ◌+◌, ◌<◌, ◌≤◌, ◌⊎◌, inl, inr, List, [], ◌∷◌, ◌++◌, length, length-append, refl, sym, ap, subst, arith}
use Rattle.std.proofs.Common.{Some}
use Rattle.std.specs.Prelude.{ℤ, pos, ◌-ℤ◌, ◌≤ℤ◌, false, IsTrue, slice_index_or}
use Rattle.std.proofs.lemmas.Bool.{and_parts, and_from}
use Rattle.std.proofs.lemmas.Int.{ints, int_max_is}
use Rattle.std.proofs.lemmas.List.{get_or_append_left, get_or_past}
use Rattle.vr_spans.specs.declared.runs.Run.{Run}
use Rattle.vr_spans.specs.Runs.{in_run}
use Rattle.vr_model.specs.tables.Numbers.{horizon, number_at, within}
use Rattle.vr_model.specs.tables.Tables.{dimension_at, transit, vehicle_at}
use Rattle.vr_model.specs.tables.WellFormed.{IsIn}
use Rattle.vr_model.specs.declared.records.Model.{Model}
use Rattle.vr_model.specs.schedules.Lines.{Arc, Line, line_arc}
use Rattle.vr_model.specs.schedules.Schedules.{Plan, IsSchedule, allows, arc_at, cumul, no_arc}
use Rattle.vr_model.proofs.schedules.LineArcs.{arcs_of_line}
use Rattle.vr_steps.specs.declared.hops.Hop.{Hop}
use Rattle.vr_steps.specs.Lines.{hop_of}
use Rattle.vr_reach.specs.Early.{AreEarly, slack_left}
use Rattle.vr_reach.specs.Lists.{node_at_stop}
use Rattle.vr_reach.specs.VisitRuns.{IsAllowedRun}
use Rattle.vr_reach.proofs.EarlyLemmas.{at_new}
use Rattle.vr_reach.proofs.LineParts.{end_node, hop_between_stops}
use Rattle.vr_costfilter.specs.Runs.{Runs, AllowsRuns, no_run}
use Rattle.vr_costfilter.specs.Floors.{end_step, stop_floor}
use Rattle.vr_costfilter.specs.Steps.{AreSteps}
use Rattle.vr_costfilter.specs.declared.trails.Step.{Step}
use Rattle.vr_costfilter.proofs.FloorLemmas.{before-had, floor-had, many-steps, node-of}
use Rattle.vr_costfilter.proofs.RunLemmas.{stop-last, stop-visit}

-- ---- what a stop allows

-- a number of the run that a stop allows is a cumul that it allows
pub allowed-in : (line : Line) (k : ℕ) (run : Run) (x : ℤ) → IsAllowedRun line k run → run.lo ≤ℤ x → x ≤ℤ run.hi → IsTrue (allows line k x)
allowed-in line k run x is low high =
    let there : IsTrue (in_run run x) = grind (arith, ints, low, high) in
    and_from _ _ (grind (arith, ints, low, high, is.ends.lo.at_least, is.ends.hi.at_most)) (sym (is.exact x) ∙ there)

-- what a stop allows is not below its run
pub not-below : (line : Line) (k : ℕ) (run : Run) (x : ℤ) → IsAllowedRun line k run → IsTrue (allows line k x) → run.lo ≤ℤ x
not-below line k run x is there =
    let inside : IsTrue (in_run run x) = is.exact x ∙ (and_parts (within (pos 0) horizon x) (slice_index_or line.allowed k (λ _. false) x) there).1 in
    grind (arith, ints, inside)

-- ---- the cumuls of one stop more

module _ (line : Line) (stops : length line.allowed ≡ suc (length line.arcs)) where
  -- a cumul of the start below which no schedule begins
  pub begin-least : (x : ℤ) → IsTrue (allows line 0 x) → ((plan : Plan) → IsSchedule line plan → x ≤ℤ cumul plan 0) → AreEarly line 0 (x ∷ [])
  begin-least x there least = record {
    many = refl;
    allowed = λ i le. let zeroth : 0 ≡ i = omega (arith, le) in subst (λ j. IsTrue (allows line j (number_at (x ∷ []) j))) zeroth there;
    slacks = λ i low. absurd (omega (arith, low));
    least = λ plan s i le. let zeroth : 0 ≡ i = omega (arith, le) in subst (λ j. number_at (x ∷ []) j ≤ℤ cumul plan j) zeroth (least plan s);
  }

  -- a cumul of the next stop below which no schedule comes there
  pub step-least : (k : ℕ) (cumuls : List ℤ) → AreEarly line k cumuls → (next : ℤ) → IsTrue (allows line (suc k) next)
      → IsIn (pos 0) line.slack_max ((next -ℤ number_at cumuls k) -ℤ (arc_at line k).transit)
      → ((plan : Plan) → IsSchedule line plan → next ≤ℤ cumul plan (suc k)) → AreEarly line (suc k) (cumuls ++ next ∷ [])
  step-least k cumuls are next there slack least = record {
    many = let n = length-append cumuls (next ∷ []) in omega (arith, n, are.many);
    allowed = λ i le. elim (earlier i le) [
      | inl old ↦ subst (λ x. IsTrue (allows line i x)) (sym (before i old)) (are.allowed i old)
      | inr new ↦
          subst (λ j. IsTrue (allows line j (number_at (cumuls ++ next ∷ []) j))) (sym new) (subst (λ x. IsTrue (allows line (suc k) x)) (sym last) there)
    ];
    slacks = λ i less. elim (sooner i less) [
      | inl old ↦ subst (IsIn (pos 0) line.slack_max) (sym (same i old)) (are.slacks i old)
      | inr new ↦ subst (λ j. IsIn (pos 0) line.slack_max (slack_left line (cumuls ++ next ∷ []) j)) (sym new) here
    ];
    least = λ plan s i le. elim (earlier i le) [
      | inl old ↦ subst (λ x. x ≤ℤ cumul plan i) (sym (before i old)) (are.least plan s i old)
      | inr new ↦ subst (λ j. number_at (cumuls ++ next ∷ []) j ≤ℤ cumul plan j) (sym new) (subst (λ x. x ≤ℤ cumul plan (suc k)) (sym last) (least plan s))
    ];
  }
    where
      earlier : (i : ℕ) → i ≤ suc k → (i ≤ k) ⊎ (i ≡ suc k)
      earlier i le = Prim.grind arith

      sooner : (i : ℕ) → i < suc k → (i < k) ⊎ (i ≡ k)
      sooner i less = Prim.grind arith

      last : number_at (cumuls ++ next ∷ []) (suc k) ≡ next
      last = at_new cumuls next (suc k) are.many

      before : (i : ℕ) → i ≤ k → number_at (cumuls ++ next ∷ []) i ≡ number_at cumuls i
      before i le = get_or_append_left cumuls (next ∷ []) (pos 0) i (omega (arith, are.many, le))

      same : (i : ℕ) → i < k → slack_left line (cumuls ++ next ∷ []) i ≡ slack_left line cumuls i
      same i less =
          let a = before i (omega (arith, less)) in
          let b = before (suc i) (omega (arith, less)) in
          omega (arith, ints, a, b)

      here : IsIn (pos 0) line.slack_max (slack_left line (cumuls ++ next ∷ []) k)
      here =
          let a = before k (omega arith) in
          record { at_least = omega (arith, ints, last, a, slack.at_least); at_most = omega (arith, ints, last, a, slack.at_most) }

-- ---- along a line that allows runs

module _ (model : Model) (d v : ℕ) (runs : Runs) (list : List ℕ) (L : Line) (by : AllowsRuns model d v runs list L) where
  pub arcs-many : length L.arcs ≡ suc (length list)
  arcs-many = ap length by.arcs ∙ arcs_of_line model d v list

  -- the transit of an arc of the line
  pub arc-transit : (k origin target : ℕ) → k ≤ length list → origin ≡ node_at_stop model v list k
      → target ≡ node_at_stop model v list (k + 1) → transit model d v origin target ≡ (arc_at L k).transit
  arc-transit k origin target le from to =
      let hop = hop_between_stops model d v list k origin target
      (hop_of (dimension_at model d).slack_max (line_arc model d v (record { vehicle = v; origin = origin; target = target }))) le from to refl in
      ap (λ (h : Hop). h.transit) hop ∙ ap (λ (arcs : List Arc). (slice_index_or arcs k no_arc).transit) (sym by.arcs)

  pub node-behind : (k : ℕ) → k < length list → slice_index_or list k 0 ≡ node_at_stop model v list (k + 1)
  node-behind k low = sym (get_or_append_left list ((vehicle_at model v).end ∷ []) 0 k low)
      ∙ ap (node_at_stop model v list) (let e : suc k ≡ k + 1 = omega arith in e)

  -- the run that the start allows
  pub start-allows : IsAllowedRun L 0 runs.start
  start-allows = by.has.each 0 (omega arith)

  -- the run that visit k allows
  pub visit-allows : (k : ℕ) → k < length list → IsAllowedRun L (k + 1) (slice_index_or runs.visits (slice_index_or list k 0) no_run)
  visit-allows k low =
      let next : suc k ≡ k + 1 = omega arith in
      let there = by.has.each (suc k) (let n = arcs-many in omega (arith, n, low)) in
      subst (λ i. IsAllowedRun L i (slice_index_or runs.visits (slice_index_or list k 0) no_run))
      next (subst (IsAllowedRun L (suc k)) (stop-visit runs list k low) there)

  -- the run that the end allows
  pub end-allows : (k : ℕ) → k ≡ length list → IsAllowedRun L (k + 1) runs.finish
  end-allows k at =
      let next : suc (length list) ≡ k + 1 = omega (arith, at) in
      let there = by.has.each (suc (length list)) (let n = arcs-many in omega (arith, n)) in
      subst (λ i. IsAllowedRun L i runs.finish) next (subst (IsAllowedRun L (suc (length list))) (stop-last runs list) there)

module _ (model : Model) (d v : ℕ) (runs : Runs) (list : List ℕ) (L : Line)
    (by : AllowsRuns model d v runs list L) (steps : List Step) (steps_are : AreSteps model d v runs list steps) where
  abbrev end : Step
  end = end_step model v runs

  stops-and-arcs : length L.allowed ≡ suc (length L.arcs)
  stops-and-arcs = by.has.stops

  all-arcs : length L.arcs ≡ suc (length list)
  all-arcs = arcs-many model d v runs list L by

  many : length steps ≡ length list
  many = many-steps model d v runs list steps steps_are

  end-at : (k : ℕ) → length list ≤ k → slice_index_or steps k end ≡ end
  end-at k le = get_or_past steps k end (let n = many in omega (arith, n, le))

  -- the node of each step, also of the end
  pub step-node : (k : ℕ) → k ≤ length list → (slice_index_or steps k (end_step model v runs)).node ≡ node_at_stop model v list (k + 1)
  step-node k le = elim (either k le) [
    | inl low ↦ node-of model d v runs list steps steps_are k end low ∙ node-behind model d v runs list L by k low
    | inr last ↦ ap (λ (s : Step). s.node) (end-at k (omega (arith, last))) ∙ sym (end_node model v list k last)
  ]
    where
      either : (k : ℕ) → k ≤ length list → (k < length list) ⊎ (k ≡ length list)
      either k le = Prim.grind arith

  -- the run of the visit to which a step leads
  pub run-of : (k : ℕ) (other : Step) → k < length list → IsAllowedRun L (k + 1) (slice_index_or runs.visits (slice_index_or steps k other).node no_run)
  run-of k other low =
      subst (λ i. IsAllowedRun L (k + 1) (slice_index_or runs.visits i no_run))
      (sym (node-of model d v runs list steps steps_are k other low)) (visit-allows model d v runs list L by k low)

  -- a floor before a stop where no schedule is earlier than the floor there
  floor-least : (k : ℕ) (allowed : Run) (node : ℕ) (next : Step) (it : ℤ) → k ≤ length list
      → IsAllowedRun L k allowed → node ≡ node_at_stop model v list k → next.node ≡ node_at_stop model v list (k + 1)
      → stop_floor model d v node allowed next ≡ Some it → (plan : Plan) → IsSchedule L plan → next.floor ≤ℤ cumul plan (suc k) → it ≤ℤ cumul plan k
  floor-least k allowed node next it le is from to e plan s there =
      let n = all-arcs in
      let low : k < length L.arcs = omega (arith, n, le) in
      let floor = floor-had next.floor (transit model d v node next.node) (dimension_at model d).slack_max allowed it e in
      let way = arc-transit model d v runs list L by k node next.node le from to in
      let here = not-below L k allowed (cumul plan k) is (s.cumuls_allowed k (let m = stops-and-arcs in omega (arith, m, low))) in
      let left = s.slacks_left k low in
      let most = (s.slacks_bounded k low).1 in
      let m = int_max_is ((next.floor -ℤ transit model d v node next.node) -ℤ (dimension_at model d).slack_max) allowed.lo in
      omega (arith, ints, floor.is, m, way, here, left, most, by.slack_max, there)

  -- no schedule comes to a visit, or to the end, before its floor
  pub floors-least : (plan : Plan) → IsSchedule L plan → (j k : ℕ) → j + k ≡ length list
      → (slice_index_or steps k (end_step model v runs)).floor ≤ℤ cumul plan (k + 1)
  floors-least plan s zero k at =
      let last : k ≡ length list = omega (arith, at) in
      let n = all-arcs in
      let run = end-allows model d v runs list L by k last in
      let here = not-below L (k + 1) runs.finish (cumul plan (k + 1)) run (s.cumuls_allowed (k + 1) (let m = stops-and-arcs in omega (arith, m, n, last))) in
      subst (λ (x : Step). x.floor ≤ℤ cumul plan (k + 1)) (sym (end-at k (omega (arith, last)))) here
  floors-least plan s (suc j) k at =
      let low : k < length list = omega (arith, at) in
      let step : Step = slice_index_or steps k end in
      let is = before-had model d v runs step.node (slice_index_or steps (suc k) end) step (steps_are.aimed.each k (let n = many in omega (arith, n, low))) in
      let next = floors-least plan s j (suc k) (omega (arith, at)) in
      let e : suc k + 1 ≡ suc (k + 1) = omega arith in
      let f : suc k ≡ k + 1 = omega arith in
      floor-least (k + 1) (slice_index_or runs.visits step.node no_run) step.node (slice_index_or steps (suc k) end)
      step.floor (omega (arith, low)) (run-of k end low) (step-node k (omega (arith, low)))
      (step-node (suc k) (omega (arith, low)) ∙ ap (λ i. node_at_stop model v list (i + 1)) f) is.floor
      plan s (subst (λ i. (slice_index_or steps (suc k) end).floor ≤ℤ cumul plan i) e next)

  -- no schedule begins before the floor of its start
  pub start-least : (it : ℤ) → stop_floor model d v (vehicle_at model v).start runs.start (slice_index_or steps 0 (end_step model v runs)) ≡ Some it
      → (plan : Plan) → IsSchedule L plan → it ≤ℤ cumul plan 0
  start-least it e plan s =
      let first = floors-least plan s (length list) 0 (omega arith) in
      let f : 0 + 1 ≡ suc 0 = omega arith in
      floor-least 0 runs.start (vehicle_at model v).start (slice_index_or steps 0 end) it
      (omega arith) (start-allows model d v runs list L by) refl (step-node 0 (omega arith))
      e plan s (subst (λ i. (slice_index_or steps 0 end).floor ≤ℤ cumul plan i) f first)
