-- Ways along lists: their numbers, and that a whole way tells where the tight schedule starts and ends.
use Rattle.std.proofs.Common.{◌≡◌, ◌∙◌, ℕ, zero, suc, ◌+◌, ◌<◌, ◌≤◌, List, [], ◌∷◌, length, take, refl, ap, ap₂, sym, subst, add-one, arith, to_z, of_z, w64}
use Rattle.std.specs.Prelude.{FitsSigned, ℤ, pos, neg_ℤ, ◌^◌, ◌+ℤ◌, ◌-ℤ◌, ◌≤ℤ◌, All, IsTrue, slice_index_or}
use Rattle.std.specs.Int.{int_max, int_min}
use Rattle.std.proofs.lemmas.Int.{ints, int_max_is, int_min_is}
use Rattle.std.proofs.lemmas.List.{length-take-le, take_all}
use Rattle.std.proofs.lemmas.List.Elements.{All-take}
use Rattle.std.proofs.lemmas.List.Sums.{fold_more}
use Rattle.vr_spans.specs.declared.runs.Run.{Run}
use Rattle.vr_model.specs.tables.Tables.{is_visit, no_vehicle, transit, vehicle_at}
use Rattle.vr_model.specs.tables.WellFormed.{IsWellFormed}
use Rattle.vr_model.specs.schedules.Lines.{Line}
use Rattle.vr_model.specs.schedules.Schedules.{arc_at, IsFeasible}
use Rattle.vr_model.specs.schedules.Tight.{IsLatestStart, IsLeastEnd}
use Rattle.vr_model.specs.declared.records.Model.{Model}
use Rattle.vr_model.proofs.routes.Lists.{visit_below}
use Rattle.vr_model.proofs.tables.Bounds.{transit_in_range}
use Rattle.vr_plan.proofs.BoundLemmas.{read-cumul}
use Rattle.vr_reach.specs.Lists.{node_at_stop}
use Rattle.vr_reach.specs.VisitRuns.{AreVisitRuns, HasCumulEnds}
use Rattle.vr_reach.proofs.LineParts.{end_node}
use Rattle.vr_costfilter.specs.Runs.{Runs, AllowsRuns, no_run, run_at, stop_runs}
use Rattle.vr_costfilter.specs.Ways.{tight-more, last_start, latest_to, time_at, transits_to, tight_way_along, way_by, way_on, way_out, way_to_visit}
use Rattle.vr_costfilter.specs.Ways.{whole_tight_way, IsTightWayOf}
use Rattle.vr_costfilter.specs.declared.tight.Way.{Way}
use Rattle.vr_costfilter.proofs.EndLemmas.{ends-told}
use Rattle.vr_costfilter.proofs.LeastLemmas.{arc-transit, arcs-many, node-behind}
use Rattle.vr_costfilter.proofs.RunLemmas.{stop-last, stop-visit}

-- ---- the numbers of ways

pub way-is : (node other : ℕ) (time t transits r latest l : ℤ) → node ≡ other → time ≡ t → transits ≡ r → latest ≡ l
    → (let w : Way = record { at = node; time = time; transits = transits; latest = latest } in w)
    ≡ (let w : Way = record { at = other; time = t; transits = r; latest = l } in w)
way-is node other time t transits r latest l at a b c =
    ap₂ (λ (n : ℕ) (x : ℤ). (let w : Way = record { at = n; time = x; transits = transits; latest = latest } in w)) at a
    ∙ ap₂ (λ (x y : ℤ). (let w : Way = record { at = other; time = t; transits = x; latest = y } in w)) b c

-- what is read of a way that goes on, r being the transit as it was read
module _ {model : Model} {way : Way} {allowed : Run} {t r : ℤ} (h : IsTightWayOf model 10000 way)
    (ends : HasCumulEnds allowed) (same : r ≡ t) (least : neg_ℤ (pos (2 ^ 31)) ≤ℤ r) (greatest : r ≤ℤ pos (2 ^ 31)) where
  sum-read : to_z w64 (of_z w64 (to_z w64 (of_z w64 way.time) +ℤ to_z w64 (of_z w64 r))) ≡ way.time +ℤ t
  sum-read = omega (arith, ints, same, least, greatest, h.early, h.late)

  transits-read : to_z w64 (of_z w64 (to_z w64 (of_z w64 way.transits) +ℤ to_z w64 (of_z w64 r))) ≡ way.transits +ℤ t
  transits-read = omega (arith, ints, same, least, greatest, h.low, h.high)

  left-read : to_z w64 (of_z w64 (to_z w64 (of_z w64 allowed.hi) -ℤ to_z w64 (of_z w64 (to_z w64 (of_z w64 way.transits) +ℤ to_z w64 (of_z w64 r)))))
      ≡ allowed.hi -ℤ (way.transits +ℤ t)
  left-read = omega (arith, ints, transits-read, same, least, greatest, h.low, h.high, ends.hi.at_least, ends.hi.at_most)

  time-read : (x : ℤ) → x ≡ int_max (way.time +ℤ t) allowed.lo → to_z w64 (of_z w64 x) ≡ x
  time-read x is =
      let m = int_max_is (way.time +ℤ t) allowed.lo in
      omega (arith, ints, is, m, same, least, greatest, h.early, h.late, ends.lo.at_least, ends.lo.at_most)

  latest-read : (x : ℤ) → x ≡ int_min way.latest (allowed.hi -ℤ (way.transits +ℤ t)) → to_z w64 (of_z w64 x) ≡ x
  latest-read x is =
      let m = int_min_is way.latest (allowed.hi -ℤ (way.transits +ℤ t)) in
      omega (arith, ints, is, m, same, least, greatest, h.low, h.high, h.soonest, h.latest, ends.hi.at_least, ends.hi.at_most)

  latest-known : to_z w64 (of_z w64 way.latest) ≡ way.latest
  latest-known = omega (arith, ints, h.soonest, h.latest)

  pub on-read : (node : ℕ) (time latest : ℤ)
      → time ≡ int_max (to_z w64 (of_z w64 (to_z w64 (of_z w64 way.time) +ℤ to_z w64 (of_z w64 r)))) (to_z w64 (of_z w64 allowed.lo))
      → latest ≡ int_min (to_z w64 (of_z w64 way.latest))
      (to_z w64 (of_z w64 (to_z w64 (of_z w64 allowed.hi) -ℤ to_z w64 (of_z w64 (to_z w64 (of_z w64 way.transits) +ℤ to_z w64 (of_z w64 r))))))
      → (let w : Way = record {
        at = node;
        time = to_z w64 (of_z w64 time);
        transits = to_z w64 (of_z w64 (to_z w64 (of_z w64 way.transits) +ℤ to_z w64 (of_z w64 r)));
        latest = to_z w64 (of_z w64 latest);
      } in w) ≡ way_by t node allowed way
  on-read node time latest time_is latest_is =
      let soon = time_is ∙ ap₂ (λ (x y : ℤ). int_max x y) sum-read (read-cumul allowed.lo ends.lo) in
      let late = latest_is ∙ ap₂ (λ (x y : ℤ). int_min x y) latest-known left-read in
      way-is node node _ _ _ _ _ _ refl (time-read time soon ∙ soon) transits-read (latest-read latest late ∙ late)

  -- what is left of a run lies within its bits
  pub left-fits : FitsSigned w64 (to_z w64 (of_z w64 allowed.hi) -ℤ to_z w64 (of_z w64 (to_z w64 (of_z w64 way.transits) +ℤ to_z w64 (of_z w64 r))))
  left-fits = omega (arith, ints, transits-read, same, least, greatest, h.low, h.high, ends.hi.at_least, ends.hi.at_most)

-- what is read of a whole way
module _ {model : Model} {way : Way} (h : IsTightWayOf model 10001 way) where
  pub end-read : to_z w64 (of_z w64 way.time) ≡ way.time
  end-read = omega (arith, ints, h.early, h.late)

  gone-read : to_z w64 (of_z w64 (to_z w64 (of_z w64 way.time) -ℤ to_z w64 (of_z w64 way.transits))) ≡ way.time -ℤ way.transits
  gone-read = omega (arith, ints, h.early, h.late, h.low, h.high)

  pub gone-fits : FitsSigned w64 (to_z w64 (of_z w64 way.time) -ℤ to_z w64 (of_z w64 way.transits))
  gone-fits = omega (arith, ints, h.early, h.late, h.low, h.high)

  start-known : to_z w64 (of_z w64 way.latest) ≡ way.latest
  start-known = omega (arith, ints, h.soonest, h.latest)

  pub start-small : (x : ℤ) → x ≡ int_min way.latest (way.time -ℤ way.transits) → to_z w64 (of_z w64 x) ≡ x
  start-small x is =
      let m = int_min_is way.latest (way.time -ℤ way.transits) in
      omega (arith, ints, is, m, h.early, h.late, h.low, h.high, h.soonest, h.latest)

  pub start-read : (x : ℤ)
      → x ≡ int_min (to_z w64 (of_z w64 way.latest)) (to_z w64 (of_z w64 (to_z w64 (of_z w64 way.time) -ℤ to_z w64 (of_z w64 way.transits))))
      → to_z w64 (of_z w64 x) ≡ int_min way.latest (way.time -ℤ way.transits)
  start-read x is = let same = is ∙ ap₂ (λ (a b : ℤ). int_min a b) start-known gone-read in start-small x same ∙ same

module _ (model : Model) (well : IsWellFormed model) (d v : ℕ) (dimension : d < length model.dimensions) (vehicle : v < length model.vehicles) where
  pub on-way : (n : ℕ) (way : Way) (node : ℕ) (allowed : Run) → IsTightWayOf model n way → node < model.nodes
      → HasCumulEnds allowed → IsTightWayOf model (n + 1) (way_on model d v way node allowed)
  on-way n way node allowed h low ends =
      let t = transit_in_range model well d v dimension vehicle way.at node h.at low in
      let m = int_max_is (way.time +ℤ transit model d v way.at node) allowed.lo in
      let o = int_min_is way.latest (allowed.hi -ℤ (way.transits +ℤ transit model d v way.at node)) in
      record {
        at = low;
        early = omega (arith, ints, m, ends.lo.at_least);
        late = omega (arith, ints, m, t.at_most, h.late, ends.lo.at_most);
        low = omega (arith, ints, h.low, t.at_least);
        high = omega (arith, ints, h.high, t.at_most);
        soonest = omega (arith, ints, o, h.soonest, ends.hi.at_least, h.high, t.at_most);
        latest = omega (arith, ints, o, h.latest);
      }

  pub out-way : (runs : Runs) → HasCumulEnds runs.start → IsTightWayOf model 0 (way_out model v runs)
  out-way runs ends =
      let f = ends.lo.at_least in
      let q = ends.hi.at_most in
      record {
        at = (well.each_vehicle v no_vehicle vehicle).start_in_range;
        early = f;
        late = omega (arith, ints, ends.lo.at_most);
        low = omega (arith, ints);
        high = omega (arith, ints);
        soonest = omega (arith, ints, ends.hi.at_least);
        latest = q;
      }

  module _ (runs : Runs) (visits : AreVisitRuns model d v runs.visits) where
    -- the run of a visit
    pub visit-ends : (node : ℕ) (other : Run) → IsTrue (is_visit model node) → HasCumulEnds (slice_index_or runs.visits node other)
    visit-ends node other visit = (visits.each node other (let low = visit_below model node visit in omega (arith, visits.long, low)) visit).ends

    pub along-way : (nodes : List ℕ) → All (λ node. IsTrue (is_visit model node)) nodes → (n : ℕ) (way : Way)
        → IsTightWayOf model n way → IsTightWayOf model (n + length nodes) (tight_way_along model d v runs way nodes)
    along-way [] all n way h = tight-more n (n + 0) (omega arith) h
    along-way (x ∷ xs) all n way h =
        let visit = all 0 0 (omega arith) in
        let next = on-way n way x (slice_index_or runs.visits x no_run) h (visit_below model x visit) (visit-ends x no_run visit) in
        let rest = along-way xs (λ k d low. all (suc k) d (omega (arith, low))) (n + 1) (way_to_visit model d v runs way x) next in
        tight-more (n + 1 + length xs) (n + suc (length xs)) (omega arith) rest

    pub along-part : (nodes : List ℕ) → All (λ node. IsTrue (is_visit model node)) nodes
        → (n : ℕ) (way : Way) → IsTightWayOf model n way → (k : ℕ) → k ≤ length nodes
        → IsTightWayOf model (n + k) (tight_way_along model d v runs way (take k nodes))
    along-part nodes all n way h k le =
        tight-more (n + length (take k nodes)) (n + k) (let l = length-take-le k nodes le in omega (arith, l))
        (along-way (take k nodes) (All-take (λ node. IsTrue (is_visit model node)) k nodes all) n way h)

-- ---- a way along a list

module _ (model : Model) (d v : ℕ) (runs : Runs) (list : List ℕ) (L : Line) (by : AllowsRuns model d v runs list L) where
  abbrev rs : List Run
  rs = stop_runs runs list

  -- a way has come to stop k
  record HasCome (k : ℕ) (way : Way) : Type 0 where
    pub at : way.at ≡ node_at_stop model v list k
    pub time : way.time ≡ time_at L rs k
    pub transits : way.transits ≡ transits_to L k
    pub latest : way.latest ≡ latest_to L rs k

  come-on : (k : ℕ) (way : Way) (node : ℕ) (allowed : Run) → k ≤ length list → HasCome k way
      → node ≡ node_at_stop model v list (k + 1) → allowed ≡ run_at rs (suc k) → HasCome (suc k) (way_on model d v way node allowed)
  come-on k way node allowed le h to is =
      let t = arc-transit model d v runs list L by k way.at node le h.at to in
      let sum : way.time +ℤ transit model d v way.at node ≡ time_at L rs k +ℤ (arc_at L k).transit = omega (arith, ints, t, h.time) in
      let transits : way.transits +ℤ transit model d v way.at node ≡ transits_to L k +ℤ (arc_at L k).transit = omega (arith, ints, t, h.transits) in
      record {
        at = to ∙ ap (node_at_stop model v list) (add-one k);
        time = ap₂ (λ (x : ℤ) (r : Run). int_max x r.lo) sum is;
        transits = transits;
        latest = ap₂ (λ (x : ℤ) (y : ℤ). int_min x y) h.latest (ap₂ (λ (r : Run) (x : ℤ). r.hi -ℤ x) is transits);
      }

  come-along : (k : ℕ) → k ≤ length list → HasCome k (tight_way_along model d v runs (way_out model v runs) (take k list))
  come-along zero le = record { at = refl; time = refl; transits = refl; latest = refl }
  come-along (suc k) le =
      let low : k < length list = omega (arith, le) in
      let more = fold_more (way_to_visit model d v runs) (way_out model v runs) list k 0 low in
      let there : take (k + 1) list ≡ take (suc k) list = ap (λ n. take n list) (add-one k) in
      subst (HasCome (suc k)) (sym more ∙ ap (tight_way_along model d v runs (way_out model v runs)) there)
      (come-on k _ (slice_index_or list k 0) (slice_index_or runs.visits (slice_index_or list k 0) no_run) (omega (arith, le))
      (come-along k (omega (arith, le))) (node-behind model d v runs list L by k low) (sym (stop-visit runs list k low)))

  come-whole : HasCome (suc (length list)) (whole_tight_way model d v runs list)
  come-whole =
      come-on (length list) _ (vehicle_at model v).end runs.finish (omega arith)
      (subst (λ l. HasCome (length list) (tight_way_along model d v runs (way_out model v runs) l))
      (take_all (length list) list (omega arith)) (come-along (length list) (omega arith)))
      (sym (end_node model v list (length list) refl)) (sym (stop-last runs list))

  -- the ends that a whole way tells are those of the tight schedule
  module _ (feasible : IsFeasible L) (way : Way) (is : way ≡ whole_tight_way model d v runs list) where
    come : HasCome (length L.arcs) way
    come = subst (λ n. HasCome n way) (sym (arcs-many model d v runs list L by)) (subst (HasCome (suc (length list))) (sym is) come-whole)

    start-told : int_min way.latest (way.time -ℤ way.transits) ≡ last_start L rs
    start-told = ap₂ (λ (x : ℤ) (y : ℤ). int_min x y) come.latest (ap₂ (λ (x : ℤ) (y : ℤ). x -ℤ y) come.time come.transits)

    pub least-end : IsLeastEnd L way.time
    least-end = subst (IsLeastEnd L) (sym come.time) (ends-told L rs by.has feasible).0

    pub latest-start : IsLatestStart L way.time (int_min way.latest (way.time -ℤ way.transits))
    latest-start =
        subst (λ s. IsLatestStart L way.time s) (sym start-told)
        (subst (λ e. IsLatestStart L e (last_start L rs)) (sym come.time) (ends-told L rs by.has feasible).1)
