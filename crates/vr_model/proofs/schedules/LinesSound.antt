-- The line of a well-formed model is sound.
use Rattle.std.proofs.Common.{◌≡◌, ℕ, zero, suc, ◌+◌, ◌<◌, Bool, true, false, ◌&&◌, not, List, [], ◌∷◌, ◌++◌, length, map, Option, Some, None, refl, sym, ◌∙◌}
use Rattle.std.proofs.Common.{ap, subst, arith, cond}
use Rattle.std.specs.Prelude.{ℤ, pos, ◌≤ℤ◌, ◌==◌, ◌||◌, nat_lt, IsTrue, slice_index_or, find, option_map, unwrap_or, EachIndex}
use Rattle.std.specs.List.{All, list_all, list_any}
use Rattle.std.proofs.lemmas.Int.{ints}
use Rattle.std.proofs.lemmas.List.{get_or-map, length-map, length-append}
use Rattle.std.proofs.lemmas.List.Folds.{list_any_at}
use Rattle.vr_model.specs.tables.Numbers.{number_at, below}
use Rattle.vr_model.specs.tables.Tables.{no_vehicle, no_dimension, vehicle_at, dimension_at, is_terminal, is_visit, transit, row_of, breaks_of}
use Rattle.vr_model.specs.routes.Routes.{UsedArc, holds, is_empty, is_distinct, arcs_from, arcs_between}
use Rattle.vr_model.specs.tables.ModelRules.{is_negative, has_breaks, has_span_costs, has_negative_transit, goes_back}
use Rattle.vr_model.specs.tables.WellFormed.{IsBreak, AreBreaks, IsDimension, IsWellFormed, WherePresent}
use Rattle.vr_model.specs.schedules.Lines.{line, line_arc, stop_allows}
use Rattle.vr_model.specs.schedules.Schedules.{no_arc, no_break, arc_at}
use Rattle.vr_model.specs.schedules.SoundLines.{IsSound, LinesAreSound}
use Rattle.vr_model.specs.deciding.Testing.{and_left, and_right, and_both, or_left, or_right, eq_of_test, test_of_eq, range_list_any}
use Rattle.vr_model.proofs.tables.Tests.{clash, fails, fails_not}
use Rattle.vr_model.proofs.schedules.LineArcs.{arcs_of_line}
use Rattle.vr_model.specs.declared.records.Model.{Model}
use Rattle.vr_model.specs.declared.records.Dimension.{Dimension}
use Rattle.vr_model.specs.declared.records.VehicleBreaks.{VehicleBreaks}
use Rattle.vr_model.specs.declared.records.BreakRow.{BreakRow}

-- ---- arcs

abbrev pub no_used_arc : UsedArc
no_used_arc = record { vehicle = 0; origin = 0; target = 0 }

-- an arc between two distinct nodes of the model
pub record IsTaken (model : Model) (arc : UsedArc) : Type 0 where
  pub origin_low : arc.origin < model.nodes
  pub target_low : arc.target < model.nodes
  pub apart : (arc.origin == arc.target) ≡ false

module _ (model : Model) where
  visit_low : (node : ℕ) → IsTrue (is_visit model node) → node < model.nodes
  visit_low node h = let t : IsTrue (nat_lt node model.nodes) = and_left (nat_lt node model.nodes) _ h in Prim.grind arith

  not_terminal : (node : ℕ) → IsTrue (is_visit model node) → is_terminal model node ≡ false
  not_terminal node h = fails_not (is_terminal model node) (and_right (nat_lt node model.nodes) _ h)

  -- a visit is no start and no end
  visit_apart : (node other : ℕ) → IsTrue (is_visit model node) → is_terminal model other ≡ true → (node == other) ≡ false
  visit_apart node other h t =
      fails (node == other) (λ e. clash (is_terminal model node) (ap (is_terminal model) (eq_of_test node other e) ∙ t) (not_terminal node h))

  apart_back : (node other : ℕ) → (node == other) ≡ false → (other == node) ≡ false
  apart_back node other e = Prim.grind arith

  module _ (v final : ℕ) (final_low : final < model.nodes) (final_ends : is_terminal model final ≡ true) where
    -- the arcs from a visit on
    from_visit : (x : ℕ) (xs : List ℕ) → IsTrue (is_visit model x) → IsTrue (list_all (is_visit model) xs) → holds xs x ≡ false → IsTrue (is_distinct xs)
        → All (IsTaken model) (arcs_from v x (xs ++ final ∷ []))
    from_visit x [] visit visits absent distinct zero d low =
        record { origin_low = visit_low x visit; target_low = final_low; apart = visit_apart x final visit final_ends }
    from_visit x [] visit visits absent distinct (suc k) d low = absurd (omega (arith, low))
    from_visit x (y ∷ ys) visit visits absent distinct zero d low =
        record { origin_low = visit_low x visit; target_low = visit_low y (and_left (is_visit model y) _ visits); apart = first (x == y) absent }
      where
        first : (b : Bool) → (b || holds ys x) ≡ false → b ≡ false
        first false e = refl
        first true e = e
    from_visit x (y ∷ ys) visit visits absent distinct (suc k) d low =
        from_visit y ys (and_left (is_visit model y) _ visits) (and_right (is_visit model y) _ visits)
        (fails_not (holds ys y) (and_left (not (holds ys y)) _ distinct)) (and_right (not (holds ys y)) _ distinct) k d (omega (arith, low))

    -- the arcs from a start on
    from_start : (start : ℕ) → start < model.nodes → is_terminal model start ≡ true → (list : List ℕ)
        → is_empty list ≡ false → IsTrue (list_all (is_visit model) list) → IsTrue (is_distinct list)
        → All (IsTaken model) (arcs_from v start (list ++ final ∷ []))
    from_start start start_low start_ends [] some visits distinct k d low = absurd (clash true refl some)
    from_start start start_low start_ends (x ∷ xs) some visits distinct zero d low =
        record {
          origin_low = start_low;
          target_low = visit_low x (and_left (is_visit model x) _ visits);
          apart = apart_back x start (visit_apart x start (and_left (is_visit model x) _ visits) start_ends);
        }
    from_start start start_low start_ends (x ∷ xs) some visits distinct (suc k) d low =
        from_visit x xs (and_left (is_visit model x) _ visits) (and_right (is_visit model x) _ visits)
        (fails_not (holds xs x) (and_left (not (holds xs x)) _ distinct)) (and_right (not (holds xs x)) _ distinct) k d (omega (arith, low))

-- ---- breaks

-- what holds of each entry holds of the one that is found
pub found_is : {A : Type 0} (P : A → Type 0) (test : A → Bool) (xs : List A) → All P xs → WherePresent P (find test xs)
found_is P test [] h = tt
found_is P test (x ∷ xs) h = go (test x) (found_is P test xs (λ k d low. h (suc k) d (omega (arith, low))))
  where
    go : (b : Bool) → WherePresent P (find test xs) → WherePresent P (cond b (Some x) (find test xs))
    go true rest = h 0 x (omega arith)
    go false rest = rest

module _ (dimension : Dimension) (v : ℕ) where
  each_break : All AreBreaks dimension.breaks → All IsBreak (breaks_of dimension v)
  each_break each = go (find (λ entry. entry.vehicle == v) dimension.breaks) (found_is AreBreaks (λ entry. entry.vehicle == v) dimension.breaks each)
    where
      go : (o : Option VehicleBreaks) → WherePresent AreBreaks o → All IsBreak (unwrap_or (option_map (λ entry. entry.rows) o) [])
      go None h = λ k d low. absurd (omega (arith, low))
      go (Some entry) h = h.each_row

  some_break : 0 < length (breaks_of dimension v) → has_breaks dimension ≡ true
  some_break = go dimension.breaks
    where
      go : (entries : List VehicleBreaks) → 0 < length (unwrap_or (option_map (λ entry. entry.rows) (find (λ entry. entry.vehicle == v) entries)) [])
          → list_any (λ entry. not (is_empty entry.rows)) entries ≡ true
      go [] h = absurd (omega (arith, h))
      go (entry ∷ entries) h = either (entry.vehicle == v) (go entries) h
        where
          rows : (xs : List BreakRow) → 0 < length xs → not (is_empty xs) ≡ true
          rows [] h = absurd (omega (arith, h))
          rows (x ∷ xs) h = refl

          either : (b : Bool) → (0 < length (unwrap_or (option_map (λ entry. entry.rows) (find (λ entry. entry.vehicle == v) entries)) [])
              → list_any (λ entry. not (is_empty entry.rows)) entries ≡ true)
              → 0 < length (unwrap_or (option_map (λ entry. entry.rows) (cond b (Some entry) (find (λ entry. entry.vehicle == v) entries))) [])
              → (not (is_empty entry.rows) || list_any (λ entry. not (is_empty entry.rows)) entries) ≡ true
          either true rest h = or_left (not (is_empty entry.rows)) _ (rows entry.rows h)
          either false rest h = or_right (not (is_empty entry.rows)) _ (rest h)

-- ---- transits

-- a test that passes nowhere on a range fails at each number of it
none_below : (p : ℕ → Bool) (n k : ℕ) → list_any p (below n) ≡ false → k < n → p k ≡ false
none_below p n k none low = fails (p k) (λ t. clash (list_any p (below n)) (range_list_any p 0 n k (omega arith) (omega arith) t) none)

module _ (model : Model) (well : IsWellFormed model) (d v : ℕ) (dimension : d < length model.dimensions) (vehicle : v < length model.vehicles) where
  of_dimension : IsDimension model (dimension_at model d)
  of_dimension = well.each_dimension d no_dimension dimension

  -- in a dimension with breaks or span costs no transit between distinct nodes is negative
  transit_forward : (has_breaks (dimension_at model d) || has_span_costs (dimension_at model d)) ≡ true
      → (i j : ℕ) → i < model.nodes → j < model.nodes → (i == j) ≡ false → pos 0 ≤ℤ transit model d v i j
  transit_forward asked i j low next apart =
      let none : has_negative_transit model d ≡ false = fails (has_negative_transit model d)
      (λ t. clash (goes_back model d) (and_both (has_breaks (dimension_at model d) || has_span_costs (dimension_at model d)) _ asked t)
      (well.transits_forward d dimension)) in
      let at_arc = none_below (λ j. not (i == j) && is_negative (transit model d v i j)) model.nodes j
      (none_below (λ i. list_any (λ j. not (i == j) && is_negative (transit model d v i j)) (below model.nodes)) model.nodes i
      (none_below (λ v. list_any (λ i. list_any (λ j. not (i == j) && is_negative (transit model d v i j)) (below model.nodes)) (below model.nodes))
      (length model.vehicles) v none vehicle) low) next in
      not_negative (i == j) apart (transit model d v i j) at_arc
    where
      not_negative : (b : Bool) → b ≡ false → (x : ℤ) → (not b && is_negative x) ≡ false → pos 0 ≤ℤ x
      not_negative true e x h = absurd (clash true refl e)
      not_negative false e x h = let n : is_negative x ≡ false = h in omega (arith, ints, n)

  module _ (list : List ℕ) (some : is_empty list ≡ false) (visits : IsTrue (list_all (is_visit model) list)) (distinct : IsTrue (is_distinct list)) where
    starts_there : is_terminal model (vehicle_at model v).start ≡ true
    starts_there = list_any_at (λ vehicle. (vehicle.start == (vehicle_at model v).start) || (vehicle.end == (vehicle_at model v).start))
        model.vehicles v no_vehicle vehicle
        (or_left ((vehicle_at model v).start == (vehicle_at model v).start) _ (test_of_eq _ _ refl))

    ends_there : is_terminal model (vehicle_at model v).end ≡ true
    ends_there =
        list_any_at (λ vehicle. (vehicle.start == (vehicle_at model v).end) || (vehicle.end == (vehicle_at model v).end)) model.vehicles v no_vehicle vehicle
        (or_right ((vehicle_at model v).start == (vehicle_at model v).end) _ (test_of_eq (vehicle_at model v).end (vehicle_at model v).end refl))

    each_arc : All (IsTaken model) (arcs_between model v list)
    each_arc = from_start model v (vehicle_at model v).end (well.each_vehicle v no_vehicle vehicle).end_in_range ends_there
        (vehicle_at model v).start (well.each_vehicle v no_vehicle vehicle).start_in_range starts_there list some visits distinct

    pub arcs_long : length (line model d v list).arcs ≡ length list + 1
    arcs_long = let n = arcs_of_line model d v list in omega (arith, n)

    -- each arc of the line leads from one node of the model to another
    pub taken : (k : ℕ) → k < length (line model d v list).arcs → IsTaken model (slice_index_or (arcs_between model v list) k no_used_arc)
    taken k low = each_arc k no_used_arc (subst (λ n. k < n) (length-map (arcs_between model v list) _) low)

    pub arc_is : (k : ℕ) → k < length (line model d v list).arcs
        → arc_at (line model d v list) k ≡ line_arc model d v (slice_index_or (arcs_between model v list) k no_used_arc)
    arc_is k low =
        get_or-map (line_arc model d v) (arcs_between model v list) k no_used_arc no_arc (subst (λ n. k < n) (length-map (arcs_between model v list) _) low)

    -- and so no arc of the line has a negative transit
    pub line_forward : (has_breaks (dimension_at model d) || has_span_costs (dimension_at model d)) ≡ true
        → EachIndex (line model d v list).arcs (λ k. pos 0 ≤ℤ (arc_at (line model d v list) k).transit)
    line_forward asked k low = subst (λ arc. pos 0 ≤ℤ arc.transit) (sym (arc_is k low))
        (transit_forward asked _ _ (taken k low).origin_low (taken k low).target_low (taken k low).apart)

    pub line_sound : IsSound (line model d v list)
    line_sound = record {
      stops = (let a = arcs_long in
          let m = length-map list (λ node. stop_allows (number_at (dimension_at model d).capacities v) (row_of (dimension_at model d).nodes node)) in
          let n = length-append (map (λ node. stop_allows (number_at (dimension_at model d).capacities v) (row_of (dimension_at model d).nodes node)) list)
          (stop_allows (number_at (dimension_at model d).capacities v) (row_of (dimension_at model d).ends v) ∷ []) in
          omega (arith, a, m, n));
      visits = λ k low. subst (λ arc. pos 0 ≤ℤ arc.visit) (sym (arc_is k low))
          (of_dimension.visit_times_in_range _ (pos 0)
          (subst (λ n. (slice_index_or (arcs_between model v list) k no_used_arc).origin < n)
          (sym of_dimension.visit_time_of_each_node) (taken k low).origin_low)).at_least;
      durations = λ i low. (each_break (dimension_at model d) v of_dimension.each_breaks i no_break low).duration_in_range.at_least;
      forward = λ breaks. line_forward (or_left (has_breaks (dimension_at model d)) _ (some_break (dimension_at model d) v breaks));
    }

pub lines_are_sound : LinesAreSound
lines_are_sound model well d v dimension vehicle list some visits distinct = line_sound model well d v dimension vehicle list some visits distinct
