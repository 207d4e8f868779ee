-- What is left behind stops: its numbers, and that a way through it is the way along its visits to the end.
use Rattle.std.proofs.Common.{◌≡◌, ◌∙◌, ℕ, suc, ◌+◌, ◌<◌, List, [], ◌∷◌, ◌++◌, length, refl, ap, ap₂, sym, subst, arith, to_z, of_z, w64}
use Rattle.std.specs.Prelude.{FitsSigned, ℤ, pos, neg_ℤ, ◌^◌, ◌+ℤ◌, ◌-ℤ◌, ◌≤ℤ◌, All, IsTrue, slice_index_or}
use Rattle.std.specs.Int.{int_max, int_min}
use Rattle.std.proofs.lemmas.Int.{ints, int_max_is, int_min_is}
use Rattle.std.proofs.lemmas.List.Sums.{fold-append}
use Rattle.vr_spans.specs.declared.runs.Run.{Run}
use Rattle.vr_model.specs.tables.Tables.{is_visit, no_vehicle, transit, vehicle_at}
use Rattle.vr_model.specs.tables.WellFormed.{IsWellFormed}
use Rattle.vr_model.specs.declared.records.Model.{Model}
use Rattle.vr_model.proofs.routes.Lists.{visit_below}
use Rattle.vr_model.proofs.tables.Bounds.{transit_in_range}
use Rattle.vr_plan.proofs.BoundLemmas.{read-cumul}
use Rattle.vr_reach.specs.VisitRuns.{AreVisitRuns, HasCumulEnds}
use Rattle.vr_costfilter.specs.Rests.{rest_at_end, rest_before, rest_by, tight_rest_of, through_by, way_through, IsTightRestOf}
use Rattle.vr_costfilter.specs.Runs.{Runs, no_run}
use Rattle.vr_costfilter.specs.Ways.{tight_way_along, way_on, way_out, way_to_visit, whole_tight_way, IsTightWayOf}
use Rattle.vr_costfilter.specs.declared.rests.Rest.{Rest}
use Rattle.vr_costfilter.specs.declared.tight.Way.{Way}
use Rattle.vr_costfilter.proofs.WayLemmas.{visit-ends, way-is}

-- ---- the numbers of what is left

pub rest-is : (node other : ℕ) (transits r least_end f latest_cumul l : ℤ) → node ≡ other → transits ≡ r → least_end ≡ f → latest_cumul ≡ l
    → (let w : Rest = record { at = node; transits = transits; least_end = least_end; latest_cumul = latest_cumul } in w)
    ≡ (let w : Rest = record { at = other; transits = r; least_end = f; latest_cumul = l } in w)
rest-is node other transits r least_end f latest_cumul l at a b c =
    ap₂ (λ (n : ℕ) (x : ℤ). (let w : Rest = record { at = n; transits = x; least_end = least_end; latest_cumul = latest_cumul } in w)) at a
    ∙ ap₂ (λ (x y : ℤ). (let w : Rest = record { at = other; transits = r; least_end = x; latest_cumul = y } in w)) b c

-- what is read of what is left, r being the transit to it as it was read
module _ {model : Model} {rest : Rest} {t r : ℤ} (h : IsTightRestOf model 1000 rest)
    (same : r ≡ t) (least : neg_ℤ (pos (2 ^ 31)) ≤ℤ r) (greatest : r ≤ℤ pos (2 ^ 31)) where
  left-read : to_z w64 (of_z w64 (to_z w64 (of_z w64 r) +ℤ to_z w64 (of_z w64 rest.transits))) ≡ t +ℤ rest.transits
  left-read = omega (arith, ints, same, least, greatest, h.low, h.high)

  floor-known : to_z w64 (of_z w64 rest.least_end) ≡ rest.least_end
  floor-known = omega (arith, ints, h.early, h.late)

  -- from a stop on that allows a run
  module _ {allowed : Run} (ends : HasCumulEnds allowed) where
    from-read : to_z w64 (of_z w64 (to_z w64 (of_z w64 allowed.lo) +ℤ to_z w64 (of_z w64 (to_z w64 (of_z w64 r) +ℤ to_z w64 (of_z w64 rest.transits)))))
        ≡ allowed.lo +ℤ (t +ℤ rest.transits)
    from-read = omega (arith, ints, left-read, same, least, greatest, h.low, h.high, ends.lo.at_least, ends.lo.at_most)

    pub from-fits : FitsSigned w64 (to_z w64 (of_z w64 allowed.lo) +ℤ to_z w64 (of_z w64 (to_z w64 (of_z w64 r) +ℤ to_z w64 (of_z w64 rest.transits))))
    from-fits = omega (arith, ints, left-read, same, least, greatest, h.low, h.high, ends.lo.at_least, ends.lo.at_most)

    under-read : to_z w64 (of_z w64 (to_z w64 (of_z w64 rest.latest_cumul) -ℤ to_z w64 (of_z w64 r))) ≡ rest.latest_cumul -ℤ t
    under-read = omega (arith, ints, same, least, greatest, h.soonest, h.latest)

    pub under-fits : FitsSigned w64 (to_z w64 (of_z w64 rest.latest_cumul) -ℤ to_z w64 (of_z w64 r))
    under-fits = omega (arith, ints, same, least, greatest, h.soonest, h.latest)

    floor-read : (x : ℤ) → x ≡ int_max (allowed.lo +ℤ (t +ℤ rest.transits)) rest.least_end → to_z w64 (of_z w64 x) ≡ x
    floor-read x is =
        let m = int_max_is (allowed.lo +ℤ (t +ℤ rest.transits)) rest.least_end in
        omega (arith, ints, is, m, same, least, greatest, h.low, h.high, h.early, h.late, ends.lo.at_least, ends.lo.at_most)

    ceiling-read : (x : ℤ) → x ≡ int_min allowed.hi (rest.latest_cumul -ℤ t) → to_z w64 (of_z w64 x) ≡ x
    ceiling-read x is =
        let m = int_min_is allowed.hi (rest.latest_cumul -ℤ t) in
        omega (arith, ints, is, m, same, least, greatest, h.soonest, h.latest, ends.hi.at_least, ends.hi.at_most)

    pub before-read : (node : ℕ) (least_end latest_cumul : ℤ)
        → least_end
        ≡ int_max (to_z w64 (of_z w64 (to_z w64 (of_z w64 allowed.lo) +ℤ to_z w64 (of_z w64 (to_z w64 (of_z w64 r) +ℤ to_z w64 (of_z w64 rest.transits))))))
        (to_z w64 (of_z w64 rest.least_end))
        → latest_cumul ≡ int_min (to_z w64 (of_z w64 allowed.hi)) (to_z w64 (of_z w64 (to_z w64 (of_z w64 rest.latest_cumul) -ℤ to_z w64 (of_z w64 r))))
        → (let w : Rest = record {
          at = node;
          transits = to_z w64 (of_z w64 (to_z w64 (of_z w64 r) +ℤ to_z w64 (of_z w64 rest.transits)));
          least_end = to_z w64 (of_z w64 least_end);
          latest_cumul = to_z w64 (of_z w64 latest_cumul);
        } in w) ≡ rest_by t node allowed rest
    before-read node least_end latest_cumul floor_is ceiling_is =
        let soon = floor_is ∙ ap₂ (λ (x y : ℤ). int_max x y) from-read floor-known in
        let late = ceiling_is ∙ ap₂ (λ (x y : ℤ). int_min x y) (read-cumul allowed.hi ends.hi) under-read in
        rest-is node node _ _ _ _ _ _ refl left-read (floor-read least_end soon ∙ soon) (ceiling-read latest_cumul late ∙ late)

  -- through it behind a way
  module _ {way : Way} (w : IsTightWayOf model 9000 way) where
    sum-read : to_z w64 (of_z w64 (to_z w64 (of_z w64 way.time) +ℤ to_z w64 (of_z w64 (to_z w64 (of_z w64 r) +ℤ to_z w64 (of_z w64 rest.transits)))))
        ≡ way.time +ℤ (t +ℤ rest.transits)
    sum-read = omega (arith, ints, left-read, same, least, greatest, h.low, h.high, w.early, w.late)

    transits-read :
        to_z w64 (of_z w64 (to_z w64 (of_z w64 way.transits) +ℤ to_z w64 (of_z w64 (to_z w64 (of_z w64 r) +ℤ to_z w64 (of_z w64 rest.transits)))))
        ≡ way.transits +ℤ (t +ℤ rest.transits)
    transits-read = omega (arith, ints, left-read, same, least, greatest, h.low, h.high, w.low, w.high)

    pub transits-fit : FitsSigned w64 (to_z w64 (of_z w64 way.transits) +ℤ to_z w64 (of_z w64 (to_z w64 (of_z w64 r) +ℤ to_z w64 (of_z w64 rest.transits))))
    transits-fit = omega (arith, ints, left-read, same, least, greatest, h.low, h.high, w.low, w.high)

    gone-read : to_z w64 (of_z w64 (to_z w64 (of_z w64 way.transits) +ℤ to_z w64 (of_z w64 r))) ≡ way.transits +ℤ t
    gone-read = omega (arith, ints, same, least, greatest, w.low, w.high)

    start-read :
        to_z w64 (of_z w64 (to_z w64 (of_z w64 rest.latest_cumul) -ℤ to_z w64 (of_z w64 (to_z w64 (of_z w64 way.transits) +ℤ to_z w64 (of_z w64 r)))))
        ≡ rest.latest_cumul -ℤ (way.transits +ℤ t)
    start-read = omega (arith, ints, gone-read, same, least, greatest, w.low, w.high, h.soonest, h.latest)

    pub start-fits : FitsSigned w64 (to_z w64 (of_z w64 rest.latest_cumul) -ℤ to_z w64 (of_z w64 (to_z w64 (of_z w64 way.transits) +ℤ to_z w64 (of_z w64 r))))
    start-fits = omega (arith, ints, gone-read, same, least, greatest, w.low, w.high, h.soonest, h.latest)

    pub time-fits : FitsSigned w64 (to_z w64 (of_z w64 way.time) +ℤ to_z w64 (of_z w64 (to_z w64 (of_z w64 r) +ℤ to_z w64 (of_z w64 rest.transits))))
    time-fits = omega (arith, ints, left-read, same, least, greatest, h.low, h.high, w.early, w.late)

    latest-is : to_z w64 (of_z w64 way.latest) ≡ way.latest
    latest-is = omega (arith, ints, w.soonest, w.latest)

    time-read : (x : ℤ) → x ≡ int_max (way.time +ℤ (t +ℤ rest.transits)) rest.least_end → to_z w64 (of_z w64 x) ≡ x
    time-read x is =
        let m = int_max_is (way.time +ℤ (t +ℤ rest.transits)) rest.least_end in
        omega (arith, ints, is, m, same, least, greatest, h.low, h.high, w.early, w.late, h.early, h.late)

    latest-read : (x : ℤ) → x ≡ int_min way.latest (rest.latest_cumul -ℤ (way.transits +ℤ t)) → to_z w64 (of_z w64 x) ≡ x
    latest-read x is =
        let m = int_min_is way.latest (rest.latest_cumul -ℤ (way.transits +ℤ t)) in
        omega (arith, ints, is, m, same, least, greatest, w.low, w.high, w.soonest, w.latest, h.soonest, h.latest)

    pub through-read : (node end : ℕ) (time latest : ℤ) → node ≡ end
        → time
        ≡ int_max (to_z w64 (of_z w64 (to_z w64 (of_z w64 way.time) +ℤ to_z w64 (of_z w64 (to_z w64 (of_z w64 r) +ℤ to_z w64 (of_z w64 rest.transits))))))
        (to_z w64 (of_z w64 rest.least_end))
        → latest ≡ int_min (to_z w64 (of_z w64 way.latest))
        (to_z w64 (of_z w64 (to_z w64 (of_z w64 rest.latest_cumul) -ℤ to_z w64 (of_z w64 (to_z w64 (of_z w64 way.transits) +ℤ to_z w64 (of_z w64 r))))))
        → (let w : Way = record {
          at = node;
          time = to_z w64 (of_z w64 time);
          transits =
              to_z w64 (of_z w64 (to_z w64 (of_z w64 way.transits) +ℤ to_z w64 (of_z w64 (to_z w64 (of_z w64 r) +ℤ to_z w64 (of_z w64 rest.transits)))));
          latest = to_z w64 (of_z w64 latest);
        } in w) ≡ through_by t end rest way
    through-read node end time latest at time_is latest_is =
        let soon = time_is ∙ ap₂ (λ (x y : ℤ). int_max x y) sum-read floor-known in
        let late = latest_is ∙ ap₂ (λ (x y : ℤ). int_min x y) latest-is start-read in
        way-is node end _ _ _ _ _ _ at (time-read time soon ∙ soon) transits-read (latest-read latest late ∙ late)

module _ (model : Model) (well : IsWellFormed model) (d v : ℕ) (dimension : d < length model.dimensions) (vehicle : v < length model.vehicles) where
  -- what is left from the end on
  pub end-rest : (runs : Runs) → HasCumulEnds runs.finish → IsTightRestOf model 0 (rest_at_end model v runs)
  end-rest runs ends =
      let f = ends.lo.at_least in
      let q = ends.hi.at_most in
      record {
        at = (well.each_vehicle v no_vehicle vehicle).end_in_range;
        low = omega (arith, ints);
        high = omega (arith, ints);
        early = f;
        late = omega (arith, ints, ends.lo.at_most);
        soonest = omega (arith, ints, ends.hi.at_least);
        latest = q;
      }

  module _ (runs : Runs) (visits : AreVisitRuns model d v runs.visits) where
    -- what is left of one arc more
    pub before-rest : (n : ℕ) (rest : Rest) (node : ℕ) → IsTightRestOf model n rest
        → IsTrue (is_visit model node) → IsTightRestOf model (n + 1) (rest_before model d v runs node rest)
    before-rest n rest node h visit =
        let low = visit_below model node visit in
        let allowed = slice_index_or runs.visits node no_run in
        let ends = visit-ends model well d v dimension vehicle runs visits node no_run visit in
        let t = transit_in_range model well d v dimension vehicle node rest.at low h.at in
        let m = int_max_is (allowed.lo +ℤ (transit model d v node rest.at +ℤ rest.transits)) rest.least_end in
        let o = int_min_is allowed.hi (rest.latest_cumul -ℤ transit model d v node rest.at) in
        record {
          at = low;
          low = omega (arith, ints, h.low, t.at_least);
          high = omega (arith, ints, h.high, t.at_most);
          early = omega (arith, ints, m, h.early);
          late = omega (arith, ints, m, t.at_most, h.late, ends.lo.at_most, h.high);
          soonest = omega (arith, ints, o, h.soonest, ends.hi.at_least, t.at_most);
          latest = omega (arith, ints, o, ends.hi.at_most);
        }

    -- what is left from visits on
    pub rest-range : HasCumulEnds runs.finish → (nodes : List ℕ) → All (λ node. IsTrue (is_visit model node)) nodes
        → IsTightRestOf model (length nodes) (tight_rest_of model d v runs nodes)
    rest-range finish [] all = end-rest runs finish
    rest-range finish (x ∷ xs) all =
        let rest = rest-range finish xs (λ k d low. all (suc k) d (omega (arith, low))) in
        subst (λ n. IsTightRestOf model n (tight_rest_of model d v runs (x ∷ xs))) (let e : length xs + 1 ≡ suc (length xs) = omega arith in e)
        (before-rest (length xs) (tight_rest_of model d v runs xs) x rest (all 0 0 (omega arith)))

  -- a way through what is left
  pub end-way : (n m : ℕ) (way : Way) (rest : Rest) → IsTightWayOf model n way
      → IsTightRestOf model m rest → IsTightWayOf model (n + 1 + m) (way_through model d v way rest)
  end-way n m way rest h r =
      let t = transit_in_range model well d v dimension vehicle way.at rest.at h.at r.at in
      let x = int_max_is (way.time +ℤ (transit model d v way.at rest.at +ℤ rest.transits)) rest.least_end in
      let o = int_min_is way.latest (rest.latest_cumul -ℤ (way.transits +ℤ transit model d v way.at rest.at)) in
      record {
        at = (well.each_vehicle v no_vehicle vehicle).end_in_range;
        early = omega (arith, ints, x, r.early);
        late = omega (arith, ints, x, t.at_most, h.late, r.high, r.late);
        low = omega (arith, ints, t.at_least, h.low, r.low);
        high = omega (arith, ints, t.at_most, h.high, r.high);
        soonest = omega (arith, ints, o, h.soonest, r.soonest, t.at_most, h.high);
        latest = omega (arith, ints, o, h.latest);
      }

-- ---- through what is left

-- the least of three numbers
least-three : (w h c tr t u : ℤ) → int_min w (int_min h (c -ℤ u) -ℤ (tr +ℤ t)) ≡ int_min (int_min w (h -ℤ (tr +ℤ t))) (c -ℤ ((tr +ℤ t) +ℤ u))
least-three w h c tr t u =
    let a = int_min_is w (int_min h (c -ℤ u) -ℤ (tr +ℤ t)) in
    let b = int_min_is h (c -ℤ u) in
    let p = int_min_is (int_min w (h -ℤ (tr +ℤ t))) (c -ℤ ((tr +ℤ t) +ℤ u)) in
    let q = int_min_is w (h -ℤ (tr +ℤ t)) in
    omega (arith, ints, a, b, p, q)

-- the greatest of three
greatest-three : (time l f t r : ℤ) → int_max (time +ℤ (t +ℤ r)) (int_max (l +ℤ r) f) ≡ int_max (int_max (time +ℤ t) l +ℤ r) f
greatest-three time l f t r =
    let a = int_max_is (time +ℤ (t +ℤ r)) (int_max (l +ℤ r) f) in
    let b = int_max_is (l +ℤ r) f in
    let p = int_max_is (int_max (time +ℤ t) l +ℤ r) f in
    let q = int_max_is (time +ℤ t) l in
    omega (arith, ints, a, b, p, q)

module _ (model : Model) (d v : ℕ) (runs : Runs) where
  -- through a visit and what is left behind it
  through-visit : (way : Way) (x : ℕ) (rest : Rest)
      → way_through model d v way (rest_before model d v runs x rest) ≡ way_through model d v (way_to_visit model d v runs way x) rest
  through-visit way x rest =
      let t = transit model d v way.at x in
      let u = transit model d v x rest.at in
      let allowed : Run = slice_index_or runs.visits x no_run in
      let sum : way.transits +ℤ (t +ℤ (u +ℤ rest.transits)) ≡ (way.transits +ℤ t) +ℤ (u +ℤ rest.transits) = omega (arith, ints) in
      way-is (vehicle_at model v).end (vehicle_at model v).end _ _ _ _ _ _ refl (greatest-three way.time allowed.lo rest.least_end t (u +ℤ rest.transits)) sum
      (least-three way.latest allowed.hi rest.latest_cumul way.transits t u)

  through-end : (way : Way) → way_through model d v way (rest_at_end model v runs) ≡ way_on model d v way (vehicle_at model v).end runs.finish
  through-end way =
      let t = transit model d v way.at (vehicle_at model v).end in
      let left : t +ℤ pos 0 ≡ t = omega (arith, ints) in
      ap (λ (x : ℤ). (let w : Way = record {
        at = (vehicle_at model v).end;
        time = int_max (way.time +ℤ x) runs.finish.lo;
        transits = way.transits +ℤ x;
        latest = int_min way.latest (runs.finish.hi -ℤ (way.transits +ℤ t));
      } in w)) left

  -- what is left from visits on is the way along them to the end
  pub through-rest : (nodes : List ℕ) (way : Way) → way_through model d v way (tight_rest_of model d v runs nodes)
      ≡ way_on model d v (tight_way_along model d v runs way nodes) (vehicle_at model v).end runs.finish
  through-rest [] way = through-end way
  through-rest (x ∷ xs) way = through-visit way x (tight_rest_of model d v runs xs) ∙ through-rest xs (way_to_visit model d v runs way x)

  -- the whole way is a way along the front of a list, on along others, and through what is left
  pub whole-parts : (front middle behind list : List ℕ) → list ≡ front ++ (middle ++ behind)
      → way_through model d v (tight_way_along model d v runs (tight_way_along model d v runs (way_out model v runs) front) middle)
      (tight_rest_of model d v runs behind) ≡ whole_tight_way model d v runs list
  whole-parts front middle behind list is =
      through-rest behind (tight_way_along model d v runs (tight_way_along model d v runs (way_out model v runs) front) middle)
      ∙ sym (ap (whole_tight_way model d v runs) is
      ∙ ap (λ (w : Way). way_on model d v w (vehicle_at model v).end runs.finish)
      (fold-append (way_to_visit model d v runs) (way_out model v runs) front (middle ++ behind)
      ∙ fold-append (way_to_visit model d v runs) (tight_way_along model d v runs (way_out model v runs) front) middle behind))
