-- Walks that carry one run.
use Rattle.std.proofs.Common.{◌≡◌, ◌∙◌, ℕ, zero, suc, ◌+◌, ◌*◌, ◌-◌, ◌<◌, ◌≤◌, false, List, [], ◌∷◌, length, sum_by, to_z, of_z, w64, ◌^◌, ℤ, pos, neg_ℤ, ◌+ℤ◌}
use Rattle.std.proofs.Common.{◌-ℤ◌, ◌≤ℤ◌, ◌<ℤ◌, refl, sym, ap, ap₂, subst, arith}
use Rattle.std.specs.Prelude.{IsTrue, ◌&&◌, ◌↔◌, int_le}
use Rattle.std.specs.Int.{int_max, int_min}
use Rattle.std.specs.List.{range_with_len}
use Rattle.std.proofs.lemmas.Bool.{and_parts, and_from}
use Rattle.std.proofs.lemmas.Int.{ints, clamps}
use Rattle.std.proofs.lemmas.List.{get_or-take, length-take}
use Rattle.std.proofs.lemmas.List.Sums.{sum_by-cons}
use Rattle.vr_spans.specs.declared.runs.Run.{Run}
use Rattle.vr_spans.specs.Runs.{has, in_run, IsNormal, ShareANumber}
use Rattle.vr_model.specs.tables.Numbers.{horizon, within}
use Rattle.vr_model.specs.tables.Tables.{dimension_at, transit}
use Rattle.vr_model.specs.tables.WellFormed.{IsIn, IsWellFormed}
use Rattle.vr_model.specs.declared.records.Model.{Model}
use Rattle.vr_model.specs.schedules.Lines.{Line, line, line_arc}
use Rattle.vr_model.specs.schedules.Schedules.{IsFeasible, IsReached, ReachesEnd, allows, arc_at}
use Rattle.vr_model.specs.schedules.SoundLines.{IsSound, LinesAreSound}
use Rattle.vr_model.specs.schedules.Levels.{FeasibleWhereLevelsMeet, ReachedByCrossing}
use Rattle.vr_model.specs.schedules.Choices.{is_reached, reaches_end}
use Rattle.vr_model.specs.schedules.ChosenLaws.{ReachedAsTested, EndReachedAsTested}
use Rattle.vr_model.specs.schedules.Weights.{runs}
use Rattle.vr_model.proofs.schedules.LineArcs.{arcs_of_line}
use Rattle.vr_steps.specs.declared.hops.Hop.{Hop}
use Rattle.vr_steps.specs.Arcs.{Leads, breaks_between}
use Rattle.vr_steps.specs.Lines.{hop_of}
use Rattle.vr_steps.specs.Levels.{IsCumuls, level_at}
use Rattle.vr_steps.specs.Reached.{ArcAlone, AreReached, AreReachingEnd, RunsAreCounted, hop_at}
use Rattle.vr_steps.proofs.ArcLemmas.{plainly, leads}
use Rattle.vr_steps.proofs.ImageLemmas.{none_between}
use Rattle.vr_reach.specs.Counts.{arc_steps, join_steps, steps_between}
use Rattle.vr_reach.specs.Singles.{IsOnlyRun, IsReachedRun, IsReachingRun}
use Rattle.vr_steps.specs.CumulRuns.{IsCumulRun}
use Rattle.vr_reach.specs.VisitRuns.{HasCumulEnds, IsAllowedRun}
use Rattle.vr_reach.specs.Lists.{IsUsed, node_at_stop}
use Rattle.vr_reach.proofs.Counting.{first_arc, runs_of}
use Rattle.vr_reach.proofs.LineParts.{hop_between_stops, sound_line}

-- a number far from the ends of 64 bits is read as it is
pub as_is : (x : ℤ) → neg_ℤ (pos (2 ^ 40)) ≤ℤ x → x ≤ℤ pos (2 ^ 40) → to_z w64 (of_z w64 x) ≡ x
as_is x low high = omega (arith, ints, low, high)

-- and so is a cumul
pub cumul_read : (x : ℤ) → IsIn (pos 0) horizon x → to_z w64 (of_z w64 x) ≡ x
cumul_read x range = let low = range.at_least in let high = range.at_most in omega (arith, ints, low, high)

-- a cumul that is reached is allowed
reached_allowed : (line : Line) → IsSound line → (k b : ℕ) (x : ℤ) → k ≤ length line.arcs → IsReached line k b x → IsTrue (allows line k x)
reached_allowed line sound k b x le (plan, rules, is) =
    let here = rules.cumuls_allowed k (omega (arith, length-take (suc k) line.allowed, sound.stops)) in
    subst (λ n. IsTrue (allows line k n)) is (rw (get_or-take (suc k) line.allowed k (λ _. false) (omega arith)) at here)

-- the numbers of two runs at once
clipped : (a b c d lo hi x : ℤ) → lo ≡ int_max a c → hi ≡ int_min b d
    → (int_le lo x && int_le x hi) ≡ ((int_le a x && int_le x b) && (int_le c x && int_le x d))
clipped a b c d lo hi x lo_is hi_is = grind (arith, ints, clamps, lo_is, hi_is)

in_way : (lo hi t s x : ℤ) → lo ≤ℤ hi → pos 0 ≤ℤ s → IsTrue (int_le (lo +ℤ t) x && int_le x (hi +ℤ (t +ℤ s)))
    → IsTrue (int_le lo (int_min (x -ℤ t) hi) && int_le (int_min (x -ℤ t) hi) hi) × ((int_min (x -ℤ t) hi +ℤ t) ≤ℤ x) × (x ≤ℤ (int_min (x -ℤ t) hi +ℤ (t +ℤ s)))
in_way lo hi t s x order rises there = (grind (arith, ints, clamps, there, order), omega (arith, ints, clamps), grind (arith, ints, clamps, there, rises))

along : (lo hi t s x y : ℤ) → IsTrue (int_le lo y && int_le y hi) → (y +ℤ t) ≤ℤ x
    → x ≤ℤ (y +ℤ (t +ℤ s)) → IsTrue (int_le (lo +ℤ t) x && int_le x (hi +ℤ (t +ℤ s)))
along lo hi t s x y from least most = grind (arith, ints, from, least, most)

-- an arc that takes t, and s more at most, leads from one run to another, of those that are allowed there
module _ (run allowed new : Run) (t s : ℤ) (order : run.lo ≤ℤ run.hi) (rises : pos 0 ≤ℤ s)
    (lo_is : new.lo ≡ int_max (run.lo +ℤ t) allowed.lo) (hi_is : new.hi ≡ int_min (run.hi +ℤ (t +ℤ s)) allowed.hi) where
  both : (x : ℤ) → in_run new x ≡ ((int_le (run.lo +ℤ t) x && int_le x (run.hi +ℤ (t +ℤ s))) && in_run allowed x)
  both x = clipped (run.lo +ℤ t) (run.hi +ℤ (t +ℤ s)) allowed.lo allowed.hi new.lo new.hi x lo_is hi_is

  pub came : (x : ℤ) → IsTrue (in_run new x) → IsTrue (in_run allowed x) × ((y : ℤ) × IsTrue (in_run run y) × ((y +ℤ t) ≤ℤ x) × (x ≤ℤ (y +ℤ (t +ℤ s))))
  came x there =
      let parts = and_parts _ _ (sym (both x) ∙ there) in
      let way = in_way run.lo run.hi t s x order rises parts.0 in
      (parts.1, (int_min (x -ℤ t) run.hi, way.0, way.1, way.2))

  pub goes : (x y : ℤ) → IsTrue (in_run allowed x) → IsTrue (in_run run y) → (y +ℤ t) ≤ℤ x → x ≤ℤ (y +ℤ (t +ℤ s)) → IsTrue (in_run new x)
  goes x y inside from least most = both x ∙ and_from _ _ (along run.lo run.hi t s x y from least most) inside

pub within_ends : (run : Run) (x : ℤ) → HasCumulEnds run → IsTrue (in_run run x) → IsTrue (within (pos 0) horizon x)
within_ends run x ends there = let lo = ends.lo.at_least in let hi = ends.hi.at_most in grind (arith, ints, lo, hi, there)

module _ (crossing : ReachedByCrossing) (L : Line) (sound : IsSound L) where
  -- behind a run that an arc without breaks leads to
  pub ahead : ArcAlone → (k b : ℕ) → k < length L.arcs → b ≤ length L.breaks → (run allowed new : Run)
      → IsCumulRun run → IsReachedRun L k b run → IsAllowedRun L (suc k) allowed → pos 0 ≤ℤ L.slack_max
      → new.lo ≡ int_max (run.lo +ℤ (arc_at L k).transit) allowed.lo
      → new.hi ≡ int_min (run.hi +ℤ ((arc_at L k).transit +ℤ L.slack_max)) allowed.hi → IsReachedRun L (suc k) b new
  ahead alone k b lt few run allowed new cumul is allows_is rises lo_is hi_is = record {
    reached = λ x there.
        let way = came run allowed new (arc_at L k).transit L.slack_max cumul.in_order rises lo_is hi_is x there in
        let y = way.1.0 in
        let before = is.reached y way.1.1 in
        let here = reached_allowed L sound k b y (omega (arith, lt)) before in
        let limits = within_ends allowed x allows_is.ends way.0 in
        let next = and_from _ _ limits (sym (allows_is.exact x) ∙ way.0) in
        let plain = leads (hop_at L k) y x (record { begin = (and_parts _ _ here).0; «end» = limits; least = way.1.2; greatest = way.1.3 }) in
        (crossing L sound k b lt few x).1 (
          b,
          omega arith,
          y,
          before,
          (alone L sound k b b lt y x).1 (here, next, subst (λ rows. Leads (hop_at L k) rows y x) (sym (none_between L.breaks b)) plain),
        );
    all = λ none x there.
        let m = (crossing L sound k b lt few x).0 there in
        let y = m.2 in
        let same : m.0 ≡ b = (let le = m.1 in omega (arith, le, none)) in
        let way = (alone L sound k m.0 b lt y x).0 m.4 in
        let plain = plainly (hop_at L k) y x
        (subst (λ rows. Leads (hop_at L k) rows y x) (ap (λ a. breaks_between L.breaks a b) same ∙ none_between L.breaks b) way.2) in
        let before = is.all none y (subst (λ a. IsReached L k a y) same m.3) in
        goes run allowed new (arc_at L k).transit L.slack_max cumul.in_order rises lo_is hi_is
        x y (allows_is.exact x ∙ (and_parts _ _ way.1).1) before plain.least plain.greatest;
  }

  -- where nothing is reached, nothing is reached further on
  none_on : (k n : ℕ) → k + n ≤ length L.arcs → ((x : ℤ) → IsReached L k 0 x → ⊥) → (x : ℤ) → IsReached L (k + n) 0 x → ⊥
  none_on k zero le none x there = let e : k + 0 ≡ k = omega arith in none x (subst (λ i. IsReached L i 0 x) e there)
  none_on k (suc n) le none x there =
      let e : k + suc n ≡ suc (k + n) = omega arith in
      let m = (crossing L sound (k + n) 0 (omega (arith, le)) (omega arith) x).0 (subst (λ i. IsReached L i 0 x) e there) in
      let zeroth : m.0 ≡ 0 = (let low = m.1 in omega (arith, low)) in
      none_on k n (omega (arith, le)) none m.2 (subst (λ a. IsReached L (k + n) a m.2) zeroth m.3)

  pub none_later : (k last b : ℕ) → k ≤ last → last ≤ length L.arcs → (run : Run) → (run.lo ≤ℤ run.hi → ⊥) → IsReachedRun L k b run → IsReachedRun L last b run
  none_later k last b order within run empty is =
      let nothing : (x : ℤ) → IsTrue (in_run run x) → ⊥ = λ x there. empty (grind (arith, ints, there)) in
      let e : k + (last - k) ≡ last = omega (arith, order) in record {
        reached = λ x there. absurd (nothing x there);
        all = λ none x there. absurd
            (none_on k (last - k) (omega (arith, order, within)) (λ y reached. nothing y (is.all none y (subst (λ a. IsReached L k a y) (sym none) reached))) x
            (subst (λ i. IsReached L i 0 x) (sym e) (subst (λ a. IsReached L last a x) none there)));
      }

module _ (law : LinesAreSound) (crossing : ReachedByCrossing) (alone : ArcAlone) (model : Model) (well : IsWellFormed model)
    (d v : ℕ) (d_low : d < length model.dimensions) (v_low : v < length model.vehicles) (list : List ℕ) (used : IsUsed model list) where
  -- behind the arc from stop k of a list
  pub run_next : (k b : ℕ) → k ≤ length list → b ≤ length (line model d v list).breaks → (run allowed new : Run)
      → IsCumulRun run → IsReachedRun (line model d v list) k b run → IsAllowedRun (line model d v list) (k + 1) allowed
      → (origin target : ℕ) → origin ≡ node_at_stop model v list k → target ≡ node_at_stop model v list (k + 1)
      → (t s : ℤ) → t ≡ transit model d v origin target → s ≡ (dimension_at model d).slack_max → pos 0 ≤ℤ s
      → new.lo ≡ int_max (run.lo +ℤ t) allowed.lo → new.hi ≡ int_min (run.hi +ℤ (t +ℤ s)) allowed.hi → IsReachedRun (line model d v list) (k + 1) b new
  run_next k b le few run allowed new cumul is allows_is origin target origin_is target_is t s t_is s_is rises lo_is hi_is =
      let L : Line = line model d v list in
      let next : k + 1 ≡ suc k = omega arith in
      let low : k < length L.arcs = (let n = arcs_of_line model d v list in omega (arith, n, le)) in
      let hop = hop_between_stops model d v list k origin target
      (hop_of (dimension_at model d).slack_max (line_arc model d v (record { vehicle = v; origin = origin; target = target })))
      le origin_is target_is refl in
      let way : t ≡ (arc_at L k).transit = t_is ∙ ap (λ (h : Hop). h.transit) hop in
      subst (λ i. IsReachedRun L i b new) (sym next)
      (ahead crossing L (sound_line law model well d v d_low v_low list used) alone k b low
      few run allowed new cumul is (subst (λ i. IsAllowedRun L i allowed) next allows_is)
      (subst (λ n. pos 0 ≤ℤ n) s_is rises) (lo_is ∙ ap (λ n. int_max (run.lo +ℤ n) allowed.lo) way)
      (hi_is ∙ ap₂ (λ m n. int_min (run.hi +ℤ (m +ℤ n)) allowed.hi) way s_is))

  -- at a later stop, where nothing is reached
  pub none_at : (k last b : ℕ) → k ≤ last → last ≤ suc (length list) → (run : Run) → (run.lo ≤ℤ run.hi → ⊥)
      → IsReachedRun (line model d v list) k b run → IsReachedRun (line model d v list) last b run
  none_at k last b order within run empty is =
      none_later crossing (line model d v list) (sound_line law model well d v d_low v_low list used)
      k last b order (let n = arcs_of_line model d v list in omega (arith, n, within)) run empty is

-- a run that is not empty is one run of cumuls
normal_run : (run : Run) → IsCumulRun run → IsNormal (run ∷ [])
normal_run run cumul = let low = cumul.least in let high = cumul.greatest in (omega (arith, ints, low), cumul.in_order, omega (arith, ints, high), tt)

cumuls_of_run : (run : Run) → IsCumulRun run → IsCumuls (run ∷ [])
cumuls_of_run run cumul x there = let low = cumul.least in let high = cumul.greatest in grind (arith, ints, low, high, there)

pub alone_in : (run : Run) (x : ℤ) → IsTrue (has (run ∷ []) x) → IsTrue (in_run run x)
alone_in run x there = grind (arith, there)

pub in_alone : (run : Run) (x : ℤ) → IsTrue (in_run run x) → IsTrue (has (run ∷ []) x)
in_alone run x there = grind (arith, there)

-- what is counted of it
runs_reached : RunsAreCounted → ReachedAsTested → (L : Line) (k : ℕ) (run : Run) → IsCumulRun run → IsReachedRun L k 0 run → runs (is_reached L k 0) ≡ 1
runs_reached counted tested L k run cumul is = runs_of counted (is_reached L k 0) (run ∷ []) (normal_run run cumul) (cumuls_of_run run cumul)
    (λ x. (λ t. (tested L k 0 x).1 (is.reached x (alone_in run x t)), λ t. in_alone run x (is.all refl x ((tested L k 0 x).0 t))))

runs_reaching : RunsAreCounted → EndReachedAsTested → (L : Line) (k : ℕ) (run : Run) → IsCumulRun run → IsReachingRun L k 0 run → runs (reaches_end L k 0) ≡ 1
runs_reaching counted tested L k run cumul is = runs_of counted (reaches_end L k 0) (run ∷ []) (normal_run run cumul) (cumuls_of_run run cumul)
    (λ x. (λ t. (tested L k 0 x).1 ((is x).0 (alone_in run x t)), λ t. in_alone run x ((is x).1 ((tested L k 0 x).0 t))))

first_of : (f : ℕ → ℕ) (n : ℕ) → f 0 ≤ sum_by f (range_with_len 0 (suc n))
first_of f n = let e = sum_by-cons f 0 (range_with_len 1 n) in omega (arith, e)

-- an arc from a run has a step
pub one_step : RunsAreCounted → ReachedAsTested → (L : Line) (k : ℕ) (run : Run) → IsCumulRun run → IsReachedRun L k 0 run → 1 ≤ arc_steps L k
one_step counted tested L k run cumul is =
    let n = length L.breaks in
    let f : ℕ → ℕ = λ b. runs (is_reached L k b) * (n - b + 1) in
    let first = first_of f n in
    let e : f 0 ≡ 1 * (n - 0 + 1) = ap (λ r. r * (n - 0 + 1)) (runs_reached counted tested L k run cumul is) in
    more (f 0) n (sum_by f (range_with_len 0 (suc n))) e first
  where
    more : (a n b : ℕ) → a ≡ 1 * (n - 0 + 1) → a ≤ b → 1 ≤ b
    more a n b e le = omega (arith, e, le)

-- the join of two runs has two
pub two_steps : RunsAreCounted → ReachedAsTested → EndReachedAsTested → (L : Line) (k : ℕ) (run to : Run)
    → IsCumulRun run → IsReachedRun L k 0 run → IsCumulRun to → IsReachingRun L k 0 to → 2 ≤ join_steps L k
two_steps counted tested tested_too L k run to cumul is cumul_too is_too =
    let n = length L.breaks in
    let f : ℕ → ℕ = λ b. runs (is_reached L k b) + runs (reaches_end L k b) in
    let first = first_of f n in
    let e : f 0 ≡ 1 + 1 = ap₂ (λ a b. a + b) (runs_reached counted tested L k run cumul is) (runs_reaching counted tested_too L k to cumul_too is_too) in
    omega (arith, e, first)

-- a step was counted for an arc that has one
pub tick_more : (start total here rest now new left : ℕ) → now + left ≤ start + total
    → left ≡ here + rest → 1 ≤ here → new ≡ now + 1 → new + rest ≤ start + total
tick_more start total here rest now new left a b c d = omega (arith, a, b, c, d)

-- the same, of the arc of a run
pub arc_counted : RunsAreCounted → ReachedAsTested → (L : Line) (k last : ℕ) (run : Run) → k < last → IsCumulRun run → IsReachedRun L k 0 run
    → (start total now new : ℕ) → now + steps_between L k last ≤ start + total → new ≡ now + 1 → new + steps_between L (k + 1) last ≤ start + total
arc_counted counted tested L k last run low cumul is start total now new before tick =
    tick_more start total (arc_steps L k) (steps_between L (k + 1) last) now new (steps_between L k last) before (first_arc L k last low)
    (one_step counted tested L k run cumul is) tick

-- a run of what is allowed, behind an arc
pub cumuls_behind : (run allowed new : Run) (t s : ℤ) → HasCumulEnds allowed → new.lo ≡ int_max (run.lo +ℤ t) allowed.lo
    → new.hi ≡ int_min (run.hi +ℤ (t +ℤ s)) allowed.hi → new.lo ≤ℤ new.hi → IsCumulRun new
cumuls_behind run allowed new t s ends lo_is hi_is some = record {
  least = let low = ends.lo.at_least in omega (arith, ints, clamps, lo_is, low);
  in_order = some;
  greatest = let high = ends.hi.at_most in omega (arith, ints, clamps, hi_is, high);
}

-- a line without breaks is feasible where the run that is reached at a stop and that from which the end is share a number
pub feasible_by_runs : FeasibleWhereLevelsMeet → (L : Line) → IsSound L → (k : ℕ) → k ≤ length L.arcs → L.breaks ≡ []
    → (run to : Run) → IsReachedRun L k 0 run → IsReachingRun L k 0 to → IsFeasible L ↔ ShareANumber (run ∷ []) (to ∷ [])
feasible_by_runs meet L sound k le none run to is is_too = (there, back)
  where
    there : IsFeasible L → ShareANumber (run ∷ []) (to ∷ [])
    there feasible =
        let m = (meet L sound k le).0 feasible in
        let no_break : length L.breaks ≡ 0 = ap length none in
        let zeroth : m.0 ≡ 0 = (let few = m.1 in omega (arith, few, no_break)) in (
          m.2,
          in_alone run m.2 (is.all refl m.2 (subst (λ b. IsReached L k b m.2) zeroth m.3)),
          in_alone to m.2 ((is_too m.2).1 (subst (λ b. ReachesEnd L k b m.2) zeroth m.4)),
        )

    back : ShareANumber (run ∷ []) (to ∷ []) → IsFeasible L
    back (x, first, second) = (meet L sound k le).1 (0, omega arith, x, is.reached x (alone_in run x first), (is_too x).0 (alone_in to x second))

-- a run without a number shares none
pub none_shared : (run to : Run) → run.hi <ℤ run.lo → ShareANumber (run ∷ []) (to ∷ []) → ⊥
none_shared run to less (x, first, second) = by (alone_in run x first)
  where
    by : IsTrue (in_run run x) → ⊥
    by there = grind (arith, ints, less, there)

-- two runs of a number each share one where neither begins behind the end of the other
pub overlap : (a b : Run) → a.lo ≤ℤ a.hi → b.lo ≤ℤ b.hi → a.lo ≤ℤ b.hi → b.lo ≤ℤ a.hi → ShareANumber (a ∷ []) (b ∷ [])
overlap a b some some_too first second = (
  int_max a.lo b.lo,
  in_alone a (int_max a.lo b.lo) (grind (arith, ints, clamps, some, second)),
  in_alone b (int_max a.lo b.lo) (grind (arith, ints, clamps, some_too, first)),
)

-- then the first begins no later than the other ends
pub begins_within : (a b : Run) → ShareANumber (a ∷ []) (b ∷ []) → a.lo ≤ℤ b.hi
begins_within a b (x, first, second) = by (alone_in a x first) (alone_in b x second)
  where
    by : IsTrue (in_run a x) → IsTrue (in_run b x) → a.lo ≤ℤ b.hi
    by h k = grind (arith, ints, h, k)

-- the same, the other way round
pub turned : (a b : Run) → ShareANumber (a ∷ []) (b ∷ []) → ShareANumber (b ∷ []) (a ∷ [])
turned a b (x, first, second) = (x, second, first)

-- the run of a level is what is reached with as many breaks
pub run_reached : (L : Line) (k b : ℕ) (levels : List (List Run)) (run : Run) → b ≤ length L.breaks
    → AreReached L k levels → IsOnlyRun (level_at levels b) run → IsReachedRun L k b run
run_reached L k b levels run few are is = record {
  reached = λ x there. (are b few x).0 (is.exact x ∙ there);
  all = λ none x reached. sym (is.exact x) ∙ (are b few x).1 reached;
}

pub run_reaching : (L : Line) (k b : ℕ) (levels : List (List Run)) (run : Run) → b ≤ length L.breaks
    → AreReachingEnd L k levels → IsOnlyRun (level_at levels b) run → IsReachingRun L k b run
run_reaching L k b levels run few are is x = (λ there. (are b few x).0 (is.exact x ∙ there), λ reaching. sym (is.exact x) ∙ (are b few x).1 reaching)
