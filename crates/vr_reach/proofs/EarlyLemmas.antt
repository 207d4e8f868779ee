-- The earliest cumuls along a line without breaks are those of its chosen schedule.
use Rattle.std.proofs.Common.{◌≡◌, ◌∙◌, ℕ, suc, ◌+◌, ◌<◌, ◌≤◌, ◌⊎◌, inl, inr, Bool, List, [], ◌∷◌, ◌++◌, length, map, ℤ, pos, ◌≤ℤ◌, ◌<ℤ◌, refl, sym, ap, subst}
use Rattle.std.proofs.Common.{arith}
use Rattle.std.specs.Prelude.{All, false, slice_index_or, cond, IsTrue, int_le, int_lt, ◌&&◌, ◌||◌}
use Rattle.std.proofs.lemmas.Bool.{and_parts, and_from}
use Rattle.std.proofs.lemmas.Int.{ints, clamps}
use Rattle.std.proofs.lemmas.List.{get_or_append_left, get_or_default, get_or-append-add, length-append, length-map}
use Rattle.std.proofs.lemmas.List.FromFn.{get_or-map-range_with_len, length-range_with_len}
use Rattle.vr_spans.specs.declared.runs.Run.{Run}
use Rattle.vr_spans.specs.Runs.{in_run}
use Rattle.vr_model.specs.tables.Numbers.{below, horizon, is_lex_le, number_at, total_by, within}
use Rattle.vr_model.specs.tables.WellFormed.{IsIn}
use Rattle.vr_model.specs.tables.Tables.{breaks_of, dimension_at, transit}
use Rattle.vr_model.specs.declared.records.Model.{Model}
use Rattle.vr_model.specs.schedules.Lines.{Line, line, line_arc}
use Rattle.vr_model.specs.schedules.Schedules.{Plan, IsSchedule, allows, arc_at, break_at, cumul, is_inside, slack}
use Rattle.vr_model.specs.schedules.ChosenLaws.{ChosenIsLeast}
use Rattle.vr_reach.specs.Early.{AreEarly, AreChosen, IsEarliestBehind, slack_left}
use Rattle.vr_steps.specs.declared.hops.Hop.{Hop}
use Rattle.vr_steps.specs.Lines.{hop_of}
use Rattle.vr_steps.specs.Stops.{allowed_by}
use Rattle.vr_steps.specs.declared.stops.StopName.TheVariants.{Start}
use Rattle.vr_reach.specs.Lists.{node_at_stop}
use Rattle.vr_reach.specs.VisitRuns.{IsAllowedRun, IsRunFor}
use Rattle.vr_model.proofs.schedules.LineArcs.{arcs_of_line}
use Rattle.vr_reach.proofs.LineParts.{hop_between_stops, stops_of_line}

-- ---- a list that is nowhere above another

first_or_later : (x y : ℤ) → x ≤ℤ y → (x ≡ y) ⊎ (x <ℤ y)
first_or_later x y le = Prim.grind (arith, ints)

lex_by_each : (xs ys : List ℤ) → length xs ≤ length ys → ((i : ℕ) → i < length xs → number_at xs i ≤ℤ number_at ys i) → IsTrue (is_lex_le xs ys)
lex_by_each [] ys long each = refl
lex_by_each (x ∷ xs) [] long each = absurd (omega (arith, long))
lex_by_each (x ∷ xs) (y ∷ ys) long each =
    let rest = lex_by_each xs ys (omega (arith, long)) (λ i low. each (suc i) (omega (arith, low))) in
    here x y (is_lex_le xs ys) (each 0 (omega arith)) rest
  where
    here : (x y : ℤ) (b : Bool) → x ≤ℤ y → IsTrue b → IsTrue (int_lt x y || (int_le x y && b))
    here x y b le rest = Prim.grind (arith, ints, le, rest)

-- ---- the cumuls of one stop more

pub at_old : (cumuls : List ℤ) (x : ℤ) (i : ℕ) → i < length cumuls → number_at (cumuls ++ x ∷ []) i ≡ number_at cumuls i
at_old cumuls x i low = get_or_append_left cumuls (x ∷ []) (pos 0) i low

pub at_new : (cumuls : List ℤ) (x : ℤ) (k : ℕ) → length cumuls ≡ k → number_at (cumuls ++ x ∷ []) k ≡ x
at_new cumuls x k long =
    let e : length cumuls + 0 ≡ k = omega (arith, long) in
    ap (number_at (cumuls ++ x ∷ [])) (sym e) ∙ get_or-append-add cumuls (x ∷ []) 0 (pos 0)

-- a number of the run that a stop allows is a cumul that it allows
pub allowed_in : (line : Line) (k : ℕ) (run : Run) (x : ℤ) → IsAllowedRun line k run → run.lo ≤ℤ x → x ≤ℤ run.hi → IsTrue (allows line k x)
allowed_in line k run x is low high =
    let lo = is.ends.lo.at_least in
    let hi = is.ends.hi.at_most in
    let there : IsTrue (in_run run x) = grind (arith, ints, low, high) in
    and_from _ _ (grind (arith, ints, low, high, lo, hi)) (sym (is.exact x) ∙ there)

-- what a stop allows is not below its run
pub not_below : (line : Line) (k : ℕ) (run : Run) (x : ℤ) → IsAllowedRun line k run → IsTrue (allows line k x) → run.lo ≤ℤ x
not_below line k run x is there =
    let inside : IsTrue (in_run run x) = is.exact x ∙ (and_parts (within (pos 0) horizon x) (slice_index_or line.allowed k (λ _. false) x) there).1 in
    grind (arith, ints, inside)

module _ (line : Line) (stops : length line.allowed ≡ suc (length line.arcs)) where
  -- the least cumul of the start
  pub begin_early : (run : Run) → IsAllowedRun line 0 run → run.lo ≤ℤ run.hi → AreEarly line 0 (run.lo ∷ [])
  begin_early run is some = record {
    many = refl;
    allowed = λ i le. let zeroth : 0 ≡ i = omega (arith, le) in
        subst (λ j. IsTrue (allows line j (number_at (run.lo ∷ []) j))) zeroth (allowed_in line 0 run run.lo is (omega (arith, ints)) some);
    slacks = λ i low. absurd (omega (arith, low));
    least = λ plan s i le. let zeroth : 0 ≡ i = omega (arith, le) in
        subst (λ j. number_at (run.lo ∷ []) j ≤ℤ cumul plan j) zeroth (not_below line 0 run (cumul plan 0) is (s.cumuls_allowed 0 (omega (arith, stops))));
  }

  pub step_early : (k : ℕ) (cumuls : List ℤ) → k < length line.arcs → AreEarly line k cumuls → (run : Run) → IsAllowedRun line (suc k) run → (next : ℤ)
      → IsEarliestBehind (number_at cumuls k) (arc_at line k).transit line.slack_max run next → AreEarly line (suc k) (cumuls ++ next ∷ [])
  step_early k cumuls low are run is next behind = record {
    many = let n = length-append cumuls (next ∷ []) in let m = are.many in omega (arith, n, m);
    allowed = λ i le. elim (earlier i le) [
      | inl old ↦ subst (λ x. IsTrue (allows line i x)) (sym (at_old cumuls next i (let m = are.many in omega (arith, m, old)))) (are.allowed i old)
      | inr new ↦ subst (λ j. IsTrue (allows line j (number_at (cumuls ++ next ∷ []) j))) (sym new)
          (subst (λ x. IsTrue (allows line (suc k) x)) (sym last) (allowed_in line (suc k) run next is above behind.most))
    ];
    slacks = λ i less. elim (sooner i less) [
      | inl old ↦ subst (IsIn (pos 0) line.slack_max) (sym (same i old)) (are.slacks i old)
      | inr new ↦ subst (λ j. IsIn (pos 0) line.slack_max (slack_left line (cumuls ++ next ∷ []) j)) (sym new) here
    ];
    least = λ plan s i le. elim (earlier i le) [
      | inl old ↦ subst (λ x. x ≤ℤ cumul plan i) (sym (at_old cumuls next i (let m = are.many in omega (arith, m, old)))) (are.least plan s i old)
      | inr new ↦ subst (λ j. number_at (cumuls ++ next ∷ []) j ≤ℤ cumul plan j) (sym new) (subst (λ x. x ≤ℤ cumul plan (suc k)) (sym last) (late plan s))
    ];
  }
    where
      earlier : (i : ℕ) → i ≤ suc k → (i ≤ k) ⊎ (i ≡ suc k)
      earlier i le = Prim.grind arith

      sooner : (i : ℕ) → i < suc k → (i < k) ⊎ (i ≡ k)
      sooner i less = Prim.grind arith

      last : number_at (cumuls ++ next ∷ []) (suc k) ≡ next
      last = at_new cumuls next (suc k) are.many

      before : number_at (cumuls ++ next ∷ []) k ≡ number_at cumuls k
      before = at_old cumuls next k (let m = are.many in omega (arith, m))

      above : run.lo ≤ℤ next
      above = let e = behind.least in omega (arith, ints, clamps, e)

      same : (i : ℕ) → i < k → slack_left line (cumuls ++ next ∷ []) i ≡ slack_left line cumuls i
      same i less =
          let a = at_old cumuls next i (let m = are.many in omega (arith, m, less)) in
          let b = at_old cumuls next (suc i) (let m = are.many in omega (arith, m, less)) in
          omega (arith, ints, a, b)

      here : IsIn (pos 0) line.slack_max (slack_left line (cumuls ++ next ∷ []) k)
      here =
          let e = behind.least in
          let most = behind.slack in record {
            at_least = omega (arith, ints, clamps, last, before, e);
            at_most = omega (arith, ints, last, before, most);
          }

      late : (plan : Plan) → IsSchedule line plan → next ≤ℤ cumul plan (suc k)
      late plan s =
          let there = not_below line (suc k) run (cumul plan (suc k)) is (s.cumuls_allowed (suc k) (omega (arith, stops, low))) in
          let left = s.slacks_left k low in
          let none = (s.slacks_bounded k low).0 in
          let first = are.least plan s k (omega arith) in
          let e = behind.least in
          omega (arith, ints, clamps, there, left, none, first, e)

  -- ---- the cumuls of all stops

  module _ (none : line.breaks ≡ []) (cumuls : List ℤ) (are : AreEarly line (length line.arcs) cumuls) where
    abbrev early_plan : Plan
    early_plan = record { cumuls = cumuls; slacks = map (slack_left line cumuls) (below (length line.arcs)); breaks = [] }

    slack_is : (k : ℕ) → k < length line.arcs → slack early_plan k ≡ slack_left line cumuls k
    slack_is k low = get_or-map-range_with_len (slack_left line cumuls) 0 (length line.arcs) k k (pos 0) low (omega arith)

    no_break : (i : ℕ) → i < length line.breaks → ⊥
    no_break i low = let n = ap length none in omega (arith, n, low)

    is_schedule : IsSchedule line early_plan
    is_schedule = record {
      cumul_of_each_stop = are.many ∙ sym stops;
      slack_of_each_arc = length-map (below (length line.arcs)) (slack_left line cumuls) ∙ length-range_with_len 0 (length line.arcs);
      start_of_each_break = sym (ap length none);
      cumuls_allowed = λ k low. are.allowed k (omega (arith, stops, low));
      slacks_left = λ k low. slack_is k low;
      slacks_bounded = λ k low. let s = are.slacks k low in
          (subst (λ x. pos 0 ≤ℤ x) (sym (slack_is k low)) s.at_least, subst (λ x. x ≤ℤ line.slack_max) (sym (slack_is k low)) s.at_most);
      breaks_in_range = λ i low. absurd (no_break i low);
      breaks_in_order = λ i low. absurd (no_break (suc i) low);
      breaks_placed = λ i low. absurd (no_break i low);
      slacks_carry_breaks = λ k low.
          let nothing = ap (λ n. total_by (λ i. cond (is_inside line early_plan i k) (break_at line i).duration (pos 0)) (below n)) (ap length none) in
          let s = subst (λ x. pos 0 ≤ℤ x) (sym (slack_is k low)) (are.slacks k low).at_least in
          subst (λ x. x ≤ℤ slack early_plan k) (sym nothing) s;
    }

    is_least : (other : Plan) → IsSchedule line other → IsTrue (is_lex_le (cumuls ++ []) (other.cumuls ++ other.breaks))
    is_least other s =
        let mine = length-append cumuls [] in
        let theirs = length-append other.cumuls other.breaks in
        let n = are.many in
        let m = s.cumul_of_each_stop in
        lex_by_each (cumuls ++ []) (other.cumuls ++ other.breaks) (omega (arith, mine, theirs, n, m, stops)) (λ i low.
        let a = get_or_append_left cumuls [] (pos 0) i (omega (arith, mine, low)) in
        let b = get_or_append_left other.cumuls other.breaks (pos 0) i (omega (arith, mine, n, m, stops, low)) in
        let le = are.least other s i (omega (arith, mine, n, low)) in
        omega (arith, ints, a, b, le))

    pub early_chosen : ChosenIsLeast → AreChosen line cumuls
    early_chosen law = record {
      plan = early_plan;
      is_chosen = (law line early_plan).1 (record { schedule = is_schedule; least = is_least });
      of_plan = refl;
    }

-- ---- along the line of a list

module _ (model : Model) (d v : ℕ) (list : List ℕ) where
  stops_and_arcs : length (line model d v list).allowed ≡ suc (length (line model d v list).arcs)
  stops_and_arcs = let n = stops_of_line model d v list in let m = arcs_of_line model d v list in omega (arith, n, m)

  pub begin_list : (run : Run) → IsRunFor (allowed_by model d v Start) run → run.lo ≤ℤ run.hi
      → (cumuls : List ℤ) → cumuls ≡ run.lo ∷ [] → AreEarly (line model d v list) 0 cumuls
  begin_list run is some cumuls are = subst (AreEarly (line model d v list) 0) (sym are)
      (begin_early (line model d v list) stops_and_arcs run (record { exact = is.exact; ends = is.ends }) some)

  pub step_list : (k : ℕ) (cumuls : List ℤ) → k ≤ length list → AreEarly (line model d v list) k cumuls
      → (run : Run) → IsAllowedRun (line model d v list) (k + 1) run
      → (origin target : ℕ) → origin ≡ node_at_stop model v list k → target ≡ node_at_stop model v list (k + 1) → (cumul t s next : ℤ)
      → cumul ≡ number_at cumuls k → t ≡ transit model d v origin target → s ≡ (dimension_at model d).slack_max
      → IsEarliestBehind cumul t s run next → AreEarly (line model d v list) (k + 1) (cumuls ++ next ∷ [])
  step_list k cumuls le are run is origin target from to cumul t s next cumul_is t_is s_is behind =
      let L : Line = line model d v list in
      let more : k + 1 ≡ suc k = omega arith in
      let low : k < length L.arcs = (let n = arcs_of_line model d v list in omega (arith, n, le)) in
      let hop = hop_between_stops model d v list k origin target
      (hop_of (dimension_at model d).slack_max (line_arc model d v (record { vehicle = v; origin = origin; target = target }))) le from to refl in
      let way : t ≡ (arc_at L k).transit = t_is ∙ ap (λ (h : Hop). h.transit) hop in
      let here = subst (λ x. IsEarliestBehind x t s run next) cumul_is behind in
      let there = subst (λ x. IsEarliestBehind (number_at cumuls k) x s run next) way here in
      let last = subst (λ x. IsEarliestBehind (number_at cumuls k) (arc_at L k).transit x run next) s_is there in
      subst (λ i. AreEarly L i (cumuls ++ next ∷ [])) (sym more)
      (step_early L stops_and_arcs k cumuls low are run (subst (λ i. IsAllowedRun L i run) more is) next last)

  module _ (cumuls : List ℤ) (are : AreEarly (line model d v list) (length list + 1) cumuls) where
    pub chosen_list : ChosenIsLeast → breaks_of (dimension_at model d) v ≡ [] → AreChosen (line model d v list) cumuls
    chosen_list law none =
        let all : length list + 1 ≡ length (line model d v list).arcs = (let n = arcs_of_line model d v list in omega (arith, n)) in
        early_chosen (line model d v list) stops_and_arcs none cumuls (subst (λ k. AreEarly (line model d v list) k cumuls) all are) law

    pub as_many_stops : length cumuls ≡ suc (suc (length list))
    as_many_stops = let n = are.many in omega (arith, n)

    pub in_range : All (IsIn (pos 0) horizon) cumuls
    in_range k other low =
        let le : k ≤ length list + 1 = (let n = are.many in omega (arith, n, low)) in
        let limits : IsTrue (within (pos 0) horizon (number_at cumuls k)) = (and_parts _ _ (are.allowed k le)).0 in
        subst (IsIn (pos 0) horizon) (get_or_default cumuls k (pos 0) other low)
        (record { at_least = grind (arith, ints, limits); at_most = grind (arith, ints, limits) })
