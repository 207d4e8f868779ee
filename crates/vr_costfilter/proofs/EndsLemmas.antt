-- What is kept of a tight vehicle's list, and what a changed list makes of it.
use Rattle.std.proofs.Common.{◌≡◌, ◌∙◌, ℕ, suc, ◌+◌, ◌-◌, ◌≤◌, List, [], ◌∷◌, ◌++◌, length, length-append, take, drop, refl, ap, ap₂, sym, subst, arith}
use Rattle.std.specs.Prelude.{pos, ◌≤ℤ◌, All, IsTrue, slice_index_or}
use Rattle.std.proofs.lemmas.Int.{ints}
use Rattle.std.proofs.lemmas.List.{get_or_default, length-drop}
use Rattle.std.proofs.lemmas.List.Elements.{All-drop}
use Rattle.vr_spans.specs.declared.runs.Run.{Run}
use Rattle.vr_model.specs.tables.Tables.{is_visit, transit, vehicle_at}
use Rattle.vr_model.specs.schedules.Lines.{line}
use Rattle.vr_model.specs.schedules.Schedules.{IsFeasible}
use Rattle.vr_model.specs.declared.records.Model.{Model}
use Rattle.vr_routes.proofs.JoinedPieces.{all_left, all_right}
use Rattle.vr_reach.specs.Lists.{IsTour}
use Rattle.vr_costfilter.specs.KeptWays.{AreWays, HasWaysBy}
use Rattle.vr_costfilter.specs.GuideRuns.{runs_of}
use Rattle.vr_costfilter.specs.Rests.{rest_by, tight_rest_of, way_through, IsTightRestOf}
use Rattle.vr_costfilter.specs.Runs.{Runs, AllowsRuns, AreRuns, no_run, run_at, stop_runs}
use Rattle.vr_costfilter.specs.Ways.{tight-more, tight_way_along, way_on, way_out, way_to_visit, whole_tight_way, IsTightWayOf}
use Rattle.vr_costfilter.specs.KeptWays.{KeptTightWays}
use Rattle.vr_costfilter.specs.declared.guides.Guide.{Guide}
use Rattle.vr_costfilter.specs.declared.rests.Rest.{Rest}
use Rattle.vr_costfilter.specs.declared.tight.Way.{Way}
use Rattle.vr_costfilter.proofs.EndLemmas.{bounds}
use Rattle.vr_costfilter.proofs.KeptCumulLemmas.{all-visits}
use Rattle.vr_costfilter.proofs.LeastLemmas.{arcs-many}
use Rattle.vr_costfilter.proofs.RestLemmas.{end-way, rest-range, whole-parts}
use Rattle.vr_costfilter.proofs.RunLemmas.{finish-run, line-allows, start-run, stop-last, stop-visit, visit-run}
use Rattle.vr_costfilter.proofs.WayLemmas.{along-part, along-way, out-way}

-- ---- by whatever table the runs were looked up

module _ (model : Model) (d v : ℕ) (a b : Runs) where
  -- visits that allow the same
  same-way : (nodes : List ℕ) → All (λ node. slice_index_or a.visits node no_run ≡ slice_index_or b.visits node no_run) nodes
      → (way : Way) → tight_way_along model d v a way nodes ≡ tight_way_along model d v b way nodes
  same-way [] all way = refl
  same-way (x ∷ xs) all way =
      same-way xs (λ k other low. all (suc k) other (omega (arith, low))) (way_to_visit model d v a way x)
      ∙ ap (λ (r : Run). tight_way_along model d v b (way_on model d v way x r) xs) (all 0 0 (omega arith))

  same-rest : a.finish ≡ b.finish → (nodes : List ℕ) → All (λ node. slice_index_or a.visits node no_run ≡ slice_index_or b.visits node no_run) nodes
      → tight_rest_of model d v a nodes ≡ tight_rest_of model d v b nodes
  same-rest finish [] all =
      ap (λ (r : Run). (let w : Rest = record { at = (vehicle_at model v).end; transits = pos 0; least_end = r.lo; latest_cumul = r.hi } in w)) finish
  same-rest finish (x ∷ xs) all =
      ap₂ (λ (r : Run) (rest : Rest). rest_by (transit model d v x rest.at) x r rest)
      (all 0 0 (omega arith)) (same-rest finish xs (λ k other low. all (suc k) other (omega (arith, low))))

-- two tables of runs agree on the stops of a list that is feasible
module _ (model : Model) (d v : ℕ) (a b : Runs) (of_a : AreRuns model d v a) (of_b : AreRuns model d v b)
    (list : List ℕ) (tour : IsTour model list) (feasible : IsFeasible (line model d v list)) where
  by : AllowsRuns model d v a list (line model d v list)
  by = line-allows model d v a of_a list tour

  some : (k : ℕ) → k ≤ suc (length list) → (run_at (stop_runs a list) k).lo ≤ℤ (run_at (stop_runs a list) k).hi
  some k le =
      let n = arcs-many model d v a list (line model d v list) by in
      let two = bounds (line model d v list) (stop_runs a list) by.has feasible.0 feasible.1 k (omega (arith, n, le)) in
      omega (arith, ints, two.0, two.1)

  pub same-start : a.start ≡ b.start
  same-start = start-run model d v a b of_a of_b (some 0 (omega arith))

  pub same-finish : a.finish ≡ b.finish
  same-finish = finish-run model d v a b of_a of_b (subst (λ (r : Run). r.lo ≤ℤ r.hi) (stop-last a list) (some (suc (length list)) (omega arith)))

  pub same-visits : All (λ node. slice_index_or a.visits node no_run ≡ slice_index_or b.visits node no_run) list
  same-visits k other low =
      visit-run model d v a b of_a of_b (slice_index_or list k other) (all-visits model list tour.visits k other low)
      (subst (λ node. (slice_index_or a.visits node no_run).lo ≤ℤ (slice_index_or a.visits node no_run).hi) (get_or_default list k 0 other low)
      (subst (λ (r : Run). r.lo ≤ℤ r.hi) (stop-visit a list k low) (some (suc k) (omega (arith, low)))))

-- the numbers of what is kept
module _ (g : Guide) (list : List ℕ) (few : length list ≤ 1000) (visits : All (λ node. IsTrue (is_visit g.model.now node)) list)
    (kept : KeptTightWays) (has : HasWaysBy g.model.now g.d g.v (runs_of g) list kept) where
  pub kept-way : (k : ℕ) (other : Way) → k ≤ length list → IsTightWayOf g.model.now 1000 (slice_index_or kept.ways.items k other)
  kept-way k other low =
      subst (IsTightWayOf g.model.now 1000) (sym (has.keeps.ways.each k other low))
      (tight-more (0 + k) 1000 (omega (arith, few, low))
      (along-part g.model.now g.sound.well_formed g.d g.v g.sound.dimension g.sound.vehicle
      (runs_of g) g.sound.visits list visits 0 (way_out g.model.now g.v (runs_of g))
      (out-way g.model.now g.sound.well_formed g.d g.v g.sound.dimension g.sound.vehicle (runs_of g) g.sound.start) k low))

  pub kept-rest : (k : ℕ) (other : Rest) → k ≤ length list → IsTightRestOf g.model.now 1000 (slice_index_or kept.rests.items k other)
  kept-rest k other low =
      subst (IsTightRestOf g.model.now 1000) (sym (has.keeps.rests.each k other low))
      (tight-more (length (drop (length list - k) list)) 1000 (let l = length-drop (length list - k) list in omega (arith, few, l))
      (rest-range g.model.now g.sound.well_formed g.d g.v g.sound.dimension g.sound.vehicle (runs_of g) g.sound.visits g.sound.finish
      (drop (length list - k) list) (All-drop (λ node. IsTrue (is_visit g.model.now node)) (length list - k) list visits)))

-- ---- a list keeps the front and the end of an old one

-- a list that is feasible keeps the front and the end of an old one, of which this is kept
pub record IsKeptAt (g : Guide) (old list : List ℕ) (front behind : ℕ) (middle : List ℕ) (kept : KeptTightWays) : Type 0 where
  pub are : AreRuns g.model.now g.d g.v (runs_of g)
  pub joins : list ≡ take front old ++ (middle ++ drop behind old)
  pub tour : IsTour g.model.now list
  pub few : length list ≤ 1000
  pub feasible : IsFeasible (line g.model.now g.d g.v list)
  pub is : AreWays g.model.now g.d g.v old kept

module _ {g : Guide} {old list : List ℕ} {front behind : ℕ} {middle : List ℕ} {kept : KeptTightWays} (it : IsKeptAt g old list front behind middle kept) where
  same-all : All (λ node. slice_index_or it.is.runs.visits node no_run ≡ slice_index_or g.visits.now node no_run) list
  same-all = same-visits g.model.now g.d g.v it.is.runs (runs_of g) it.is.has.runs_are it.are list it.tour it.feasible

  visits : All (λ node. IsTrue (is_visit g.model.now node)) list
  visits = all-visits g.model.now list it.tour.visits

  in-front : (P : ℕ → Type 0) → All P list → All P (take front old)
  in-front P all = all_left P (take front old) (middle ++ drop behind old) (subst (All P) it.joins all)

  pub in-middle : (P : ℕ → Type 0) → All P list → All P middle
  in-middle P all = all_left P middle (drop behind old) (all_right P (take front old) (middle ++ drop behind old) (subst (All P) it.joins all))

  in-back : (P : ℕ → Type 0) → All P list → All P (drop behind old)
  in-back P all = all_right P middle (drop behind old) (all_right P (take front old) (middle ++ drop behind old) (subst (All P) it.joins all))

  pub middle-visits : All (λ node. IsTrue (is_visit g.model.now node)) middle
  middle-visits = in-middle (λ node. IsTrue (is_visit g.model.now node)) visits

  parts : length list ≡ length (take front old) + (length middle + length (drop behind old))
  parts =
      let two = length-append (take front old) (middle ++ drop behind old) in
      let more = length-append middle (drop behind old) in
      let all = ap length it.joins in
      omega (arith, two, more, all)

  pub middle-few : length middle ≤ 1000
  middle-few = let n = parts in omega (arith, n, it.few)

  -- the way that is kept in front
  pub way-known : (way : Way) → front ≤ length old → ((other : Way) → way ≡ slice_index_or kept.ways.items front other)
      → way ≡ tight_way_along g.model.now g.d g.v (runs_of g) (way_out g.model.now g.v (runs_of g)) (take front old)
  way-known way low read =
      read way ∙ it.is.has.keeps.ways.each front way low
      ∙ same-way g.model.now g.d g.v it.is.runs (runs_of g) (take front old)
      (in-front (λ node. slice_index_or it.is.runs.visits node no_run ≡ slice_index_or g.visits.now node no_run) same-all)
      (way_out g.model.now g.v it.is.runs)
      ∙ ap (λ (r : Run). (let out : Way = record { at = (vehicle_at g.model.now g.v).start; time = r.lo; transits = pos 0; latest = r.hi } in
      tight_way_along g.model.now g.d g.v (runs_of g) out (take front old)))
      (same-start g.model.now g.d g.v it.is.runs (runs_of g) it.is.has.runs_are it.are list it.tour it.feasible)

  pub way-small : (way : Way) → front ≤ length old → ((other : Way) → way ≡ slice_index_or kept.ways.items front other) → IsTightWayOf g.model.now 1000 way
  way-small way low read =
      let n = parts in
      subst (IsTightWayOf g.model.now 1000) (sym (way-known way low read))
      (tight-more (0 + length (take front old)) 1000 (omega (arith, n, it.few))
      (along-way g.model.now g.sound.well_formed g.d g.v g.sound.dimension g.sound.vehicle (runs_of g) g.sound.visits
      (take front old) (in-front (λ node. IsTrue (is_visit g.model.now node)) visits) 0 (way_out g.model.now g.v (runs_of g))
      (out-way g.model.now g.sound.well_formed g.d g.v g.sound.dimension g.sound.vehicle (runs_of g) g.sound.start)))

  -- what is kept behind
  pub rest-known : (rest : Rest) → behind ≤ length old → ((other : Rest) → rest ≡ slice_index_or kept.rests.items (length kept.rests.items - 1 - behind) other)
      → rest ≡ tight_rest_of g.model.now g.d g.v (runs_of g) (drop behind old)
  rest-known rest low read =
      let here : length kept.rests.items - 1 - behind ≡ length old - behind = omega (arith, it.is.has.keeps.rests.many) in
      let back : length old - (length old - behind) ≡ behind = omega (arith, low) in
      read rest ∙ ap (λ n. slice_index_or kept.rests.items n rest) here ∙ it.is.has.keeps.rests.each (length old - behind) rest (omega arith)
      ∙ ap (λ n. tight_rest_of g.model.now g.d g.v it.is.runs (drop n old)) back
      ∙ same-rest g.model.now g.d g.v it.is.runs (runs_of g)
      (same-finish g.model.now g.d g.v it.is.runs (runs_of g) it.is.has.runs_are it.are list it.tour it.feasible)
      (drop behind old) (in-back (λ node. slice_index_or it.is.runs.visits node no_run ≡ slice_index_or g.visits.now node no_run) same-all)

  pub rest-small : (rest : Rest) → behind ≤ length old
      → ((other : Rest) → rest ≡ slice_index_or kept.rests.items (length kept.rests.items - 1 - behind) other) → IsTightRestOf g.model.now 1000 rest
  rest-small rest low read =
      let n = parts in
      subst (IsTightRestOf g.model.now 1000) (sym (rest-known rest low read))
      (tight-more (length (drop behind old)) 1000 (omega (arith, n, it.few))
      (rest-range g.model.now g.sound.well_formed g.d g.v g.sound.dimension g.sound.vehicle (runs_of g)
      g.sound.visits g.sound.finish (drop behind old) (in-back (λ node. IsTrue (is_visit g.model.now node)) visits)))

  -- the way along the front, on along the middle and through what is left is the whole one
  pub whole-known : (first way whole : Way) (rest : Rest) → front ≤ length old
      → behind ≤ length old → ((other : Way) → first ≡ slice_index_or kept.ways.items front other)
      → ((other : Rest) → rest ≡ slice_index_or kept.rests.items (length kept.rests.items - 1 - behind) other)
      → way ≡ tight_way_along g.model.now g.d g.v (runs_of g) first middle
      → whole ≡ way_through g.model.now g.d g.v way rest → whole ≡ whole_tight_way g.model.now g.d g.v (runs_of g) list
  whole-known first way whole rest low high way_read rest_read way_is whole_is =
      whole_is
      ∙ ap₂ (λ (w : Way) (r : Rest). way_through g.model.now g.d g.v w r)
      (way_is ∙ ap (λ (w : Way). tight_way_along g.model.now g.d g.v (runs_of g) w middle) (way-known first low way_read)) (rest-known rest high rest_read)
      ∙ whole-parts g.model.now g.d g.v (runs_of g) (take front old) middle (drop behind old) list it.joins

  pub whole-small : (way whole : Way) (rest : Rest) → behind ≤ length old → IsTightWayOf g.model.now 9000 way
      → ((other : Rest) → rest ≡ slice_index_or kept.rests.items (length kept.rests.items - 1 - behind) other)
      → whole ≡ way_through g.model.now g.d g.v way rest → IsTightWayOf g.model.now 10001 whole
  whole-small way whole rest high range read whole_is =
      subst (IsTightWayOf g.model.now 10001) (sym whole_is)
      (end-way g.model.now g.sound.well_formed g.d g.v g.sound.dimension g.sound.vehicle 9000 1000 way rest range (rest-small rest high read))
