-- The chosen schedule of a list ends no earlier than its whole way, and its span is no less than the least one.
use Rattle.std.proofs.Common.{◌≡◌, ◌∙◌, ℕ, suc, ◌<◌, ◌≤◌, ◌⊎◌, inl, inr, Bool, true, false, cond, List, [], ◌∷◌, ◌++◌, length, map, refl, ap, sym, subst, arith}
use Rattle.std.specs.Prelude.{ℤ, pos, negsuc, neg_ℤ, ◌+ℤ◌, ◌-ℤ◌, ◌≤ℤ◌, ◌==◌, ◌&&◌, IsTrue, int_le, slice_index_or}
use Rattle.std.specs.Int.{int_min}
use Rattle.std.proofs.lemmas.Int.{ints, int_max_is, int_min_is}
use Rattle.vr_model.specs.tables.Numbers.{horizon, number_at, within}
use Rattle.vr_model.specs.tables.Tables.{breaks_of, dimension_at, no_dimension, row_of, transit, vehicle_at}
use Rattle.vr_model.specs.tables.WellFormed.{IsStopRow, IsWellFormed}
use Rattle.vr_model.specs.routes.Routes.{arcs_from, is_empty}
use Rattle.vr_model.specs.schedules.Lines.{Arc, line, line_arc, start_allows, stop_allows}
use Rattle.vr_model.specs.schedules.Narrowed.{chosen_line, narrowed}
use Rattle.vr_model.specs.schedules.Schedules.{Plan, IsChosen, IsSchedule, allows, cumul, no_arc, slack}
use Rattle.vr_model.specs.deciding.Testing.{and_left, and_right, and_both, test_of_within, within_is}
use Rattle.vr_model.specs.declared.records.Model.{Model}
use Rattle.vr_model.specs.declared.records.ScheduleRule.{ScheduleRule}
use Rattle.vr_model.specs.declared.records.ScheduleRule.TheVariants.{Earliest, Tight}
use Rattle.vr_model.proofs.schedules.LineArcs.{arcs_of_line, stops_of_line}
use Rattle.vr_model.proofs.schedules.LinesSound.{found_is}
use Rattle.vr_model.proofs.schedules.UnderRules.{narrowed_keeps_rules}
use Rattle.vr_earliest.specs.declared.ways.Way.{Way}
use Rattle.vr_earliest.specs.Floors.{floor_of, forbids_none, is_earliest, starts_freely, start_floor}
use Rattle.vr_earliest.specs.Ways.{to_visits, way_from_start, span_by, to_node, on_to_visit, whole_way}
use Rattle.vr_earliest.specs.Laws.{ChosenIsNoEarlier, IsNoEarlier}
use Rattle.vr_earliest.proofs.FloorLemmas.{floor-below, least-below}
use Rattle.vr_earliest.proofs.Earlier.{not-least, start-before}

-- a way is no later than x, and its transits come to no more than from b to x
record IsBelow (way : Way) (x b : ℤ) : Type 0 where
  time : way.time ≤ℤ x
  transits : way.transits ≤ℤ (x -ℤ b)

module _ (model : Model) (d v : ℕ) where
  abbrev capacity : ℤ
  capacity = number_at (dimension_at model d).capacities v

  abbrev arcs_behind : ℕ → List ℕ → List Arc
  arcs_behind at nodes = map (line_arc model d v) (arcs_from v at (nodes ++ (vehicle_at model v).end ∷ []))

  abbrev allowed_behind : List ℕ → List (ℤ → Bool)
  allowed_behind nodes = map (λ node. stop_allows capacity (row_of (dimension_at model d).nodes node)) nodes
      ++ stop_allows capacity (row_of (dimension_at model d).ends v) ∷ []

  -- cumuls from a node on, through others to the end
  record AreCumuls (at : ℕ) (nodes : List ℕ) (c : ℕ → ℤ) : Type 0 where
    arcs : (k : ℕ) → k < suc (length nodes) → (c k +ℤ (slice_index_or (arcs_behind at nodes) k no_arc).transit) ≤ℤ c (suc k)
    allowed : (k : ℕ) → k < suc (length nodes) → IsTrue (slice_index_or (allowed_behind nodes) k (λ _. false) (c (suc k)))

  node-below : (way : Way) (node : ℕ) (floor y x b : ℤ) → IsBelow way y b
      → (y +ℤ transit model d v way.at node) ≤ℤ x → floor ≤ℤ x → IsBelow (to_node model d v way node floor) x b
  node-below way node floor y x b h arc low =
      let m = int_max_is (way.time +ℤ transit model d v way.at node) floor in
      record { time = omega (arith, ints, m, h.time, arc, low); transits = omega (arith, ints, h.transits, arc) }

  rest-of : (at x : ℕ) (xs : List ℕ) (c : ℕ → ℤ) → AreCumuls at (x ∷ xs) c → AreCumuls x xs (λ k. c (suc k))
  rest-of at x xs c h = record {
    arcs = λ k low. h.arcs (suc k) (omega (arith, low));
    allowed = λ k low. h.allowed (suc k) (omega (arith, low));
  }

  visit-below : (way : Way) (x : ℕ) (xs : List ℕ) (c : ℕ → ℤ) (b : ℤ) → AreCumuls way.at (x ∷ xs) c
      → IsBelow way (c 0) b → IsBelow (on_to_visit model d v way x) (c 1) b
  visit-below way x xs c b h i =
      node-below way x (floor_of (row_of (dimension_at model d).nodes x)) (c 0) (c 1) b i (h.arcs 0 (omega arith))
      (floor-below capacity (row_of (dimension_at model d).nodes x) (c 1) (h.allowed 0 (omega arith)))

  way-below : (nodes : List ℕ) (way : Way) (c : ℕ → ℤ) (b : ℤ) → AreCumuls way.at nodes c → IsBelow way (c 0) b
      → IsBelow (to_node model d v (to_visits model d v way nodes) (vehicle_at model v).end (floor_of (row_of (dimension_at model d).ends v)))
      (c (suc (length nodes))) b
  way-below [] way c b h i =
      node-below way (vehicle_at model v).end (floor_of (row_of (dimension_at model d).ends v)) (c 0) (c 1) b i
      (h.arcs 0 (omega arith)) (floor-below capacity (row_of (dimension_at model d).ends v) (c 1) (h.allowed 0 (omega arith)))
  way-below (x ∷ xs) way c b h i = way-below xs (on_to_visit model d v way x) (λ k. c (suc k)) b (rest-of way.at x xs c h) (visit-below way x xs c b h i)

  allowed-many : (nodes : List ℕ) → length (allowed_behind nodes) ≡ suc (length nodes)
  allowed-many [] = refl
  allowed-many (x ∷ xs) = ap suc (allowed-many xs)

  module _ (list : List ℕ) (plan : Plan) (keeps : IsSchedule (line model d v list) plan) where
    arcs_are : length (line model d v list).arcs ≡ suc (length list)
    arcs_are = arcs_of_line model d v list

    cumuls : AreCumuls (vehicle_at model v).start list (cumul plan)
    cumuls = record {
      arcs = λ k low. (let here : k < length (line model d v list).arcs = (let n = arcs_are in omega (arith, n, low)) in
          let s = keeps.slacks_left k here in let b = (keeps.slacks_bounded k here).0 in omega (arith, ints, s, b));
      allowed = λ k low. and_right (within (pos 0) horizon (cumul plan (suc k))) _
          (keeps.cumuls_allowed (suc k) (let n = allowed-many list in omega (arith, n, low)));
    }

    in_range : (k : ℕ) → k ≤ suc (length list) → (pos 0 ≤ℤ cumul plan k) × (cumul plan k ≤ℤ horizon)
    in_range k le = within_is (pos 0) horizon (cumul plan k)
        (and_left (within (pos 0) horizon (cumul plan k)) _ (keeps.cumuls_allowed k (let n = allowed-many list in omega (arith, n, le))))

    start_allowed : IsTrue (start_allows (dimension_at model d) capacity (row_of (dimension_at model d).starts v) (cumul plan 0))
    start_allowed = and_right (within (pos 0) horizon (cumul plan 0)) _ (keeps.cumuls_allowed 0 (let n = allowed-many list in omega (arith, n)))

    from_start : IsBelow (way_from_start model d v) (cumul plan 0) (cumul plan 0)
    from_start = record {
      time = floor-below capacity (row_of (dimension_at model d).starts v) (cumul plan 0)
          (and_left (stop_allows capacity (row_of (dimension_at model d).starts v) (cumul plan 0)) _ start_allowed);
      transits = omega (arith, ints);
    }

    whole : IsBelow (whole_way model d v list) (cumul plan (suc (length list))) (cumul plan 0)
    whole = way-below list (way_from_start model d v) (cumul plan) (cumul plan 0) cumuls from_start

    -- where the first slack is the greatest one, the transits come behind it
    slack-below : is_empty list ≡ false → (dimension_at model d).slack_max ≤ℤ slack plan 0
        → ((dimension_at model d).slack_max +ℤ (whole_way model d v list).transits) ≤ℤ (cumul plan (suc (length list)) -ℤ cumul plan 0)
    slack-below some full = go list refl
      where
        go : (nodes : List ℕ) → list ≡ nodes
            → ((dimension_at model d).slack_max +ℤ (whole_way model d v list).transits) ≤ℤ (cumul plan (suc (length list)) -ℤ cumul plan 0)
        go [] e = absurd (let f : false ≡ true → ⊥ = λ e. Prim.cc in f (sym some ∙ ap is_empty e))
        go (x ∷ xs) e = subst (λ (nodes : List ℕ). ((dimension_at model d).slack_max +ℤ (whole_way model d v nodes).transits)
            ≤ℤ (cumul plan (suc (length nodes)) -ℤ cumul plan 0)) (sym e) there
          where
            h : AreCumuls (vehicle_at model v).start (x ∷ xs) (cumul plan)
            h = subst (λ (nodes : List ℕ). AreCumuls (vehicle_at model v).start nodes (cumul plan)) e cumuls

            arc : slack plan 0 ≡ (cumul plan 1 -ℤ cumul plan 0) -ℤ transit model d v (vehicle_at model v).start x
            arc = subst (λ (nodes : List ℕ). slack plan 0
                ≡ (cumul plan 1 -ℤ cumul plan 0) -ℤ (slice_index_or (arcs_behind (vehicle_at model v).start nodes) 0 no_arc).transit) e
                (keeps.slacks_left 0 (let n = arcs_are in omega (arith, n)))

            first : IsBelow (on_to_visit model d v (way_from_start model d v) x) (cumul plan 1) (cumul plan 0 +ℤ (dimension_at model d).slack_max)
            first =
                let v0 = visit-below (way_from_start model d v) x xs (cumul plan) (cumul plan 0) h from_start in
                let t = v0.time in
                let a = arc in
                record { time = t; transits = omega (arith, ints, a, full) }

            there : ((dimension_at model d).slack_max +ℤ (whole_way model d v (x ∷ xs)).transits) ≤ℤ (cumul plan (suc (suc (length xs))) -ℤ cumul plan 0)
            there =
                let w = (way-below xs (on_to_visit model d v (way_from_start model d v) x) (λ k. cumul plan (suc k))
                (cumul plan 0 +ℤ (dimension_at model d).slack_max) (rest-of (vehicle_at model v).start x xs (cumul plan) h) first).transits in
                omega (arith, ints, w)

int_cases : (x y : ℤ) → (x ≤ℤ y) ⊎ ((y +ℤ pos 1) ≤ℤ x)
int_cases x y = go (int_le x y) refl
  where
    go : (b : Bool) → int_le x y ≡ b → (x ≤ℤ y) ⊎ ((y +ℤ pos 1) ≤ℤ x)
    go true e = inl (omega (arith, ints, e))
    go false e = inr (omega (arith, ints, e))

none-of : {A : Type 0} (xs : List A) → IsTrue (is_empty xs) → xs ≡ []
none-of [] h = refl
none-of (x ∷ xs) h = absurd (let f : false ≡ true → ⊥ = λ e. Prim.cc in f h)

-- a vehicle that starts freely
record IsFree (model : Model) (d v : ℕ) : Type 0 where
  rule : (vehicle_at model v).schedule ≡ Earliest
  no_breaks : IsTrue (is_empty (breaks_of (dimension_at model d) v))
  forbids_none : IsTrue (forbids_none (row_of (dimension_at model d).starts v))

earliest-is : (rule : ScheduleRule) → IsTrue (is_earliest rule) → rule ≡ Earliest
earliest-is Earliest h = refl
earliest-is Tight h = absurd (let f : false ≡ true → ⊥ = λ e. Prim.cc in f h)

free-is : (model : Model) (d v : ℕ) → IsTrue (starts_freely (vehicle_at model v) (dimension_at model d) v) → IsFree model d v
free-is model d v h =
    let rule = (vehicle_at model v).schedule in
    let breaks = breaks_of (dimension_at model d) v in
    let start = row_of (dimension_at model d).starts v in
    let first = and_left (is_earliest rule && is_empty breaks) (forbids_none start) h in
    record {
      rule = earliest-is rule (and_left (is_earliest rule) (is_empty breaks) first);
      no_breaks = and_right (is_earliest rule) (is_empty breaks) first;
      forbids_none = and_right (is_earliest rule && is_empty breaks) (forbids_none start) h;
    }

module _ (model : Model) (well : IsWellFormed model) (d v : ℕ) (dimension : d < length model.dimensions) (list : List ℕ)
    (some : is_empty list ≡ false) (plan : Plan) (chosen : IsChosen (chosen_line model d v list) plan) where
  abbrev last : ℤ
  last = cumul plan (suc (length list))

  keeps : IsSchedule (line model d v list) plan
  keeps = narrowed_keeps_rules (vehicle_at model v).schedule (line model d v list) (stops_of_line model d v list) plan chosen.schedule

  -- a vehicle that starts freely starts at the floor, or waits for the greatest slack
  early-or-late : IsFree model d v → (cumul plan 0 ≤ℤ start_floor model d v) ⊎ ((dimension_at model d).slack_max ≤ℤ slack plan 0)
  early-or-late free = elim (int_cases (cumul plan 0) (start_floor model d v)) [
    | inl low ↦ inl low
    | inr high ↦ elim (int_cases (dimension_at model d).slack_max (slack plan 0)) [
      | inl full ↦ inr full
      | inr room ↦ absurd (not-least (line model d v list) plan keeps (none-of _ free.no_breaks)
          (let n = arcs_of_line model d v list in omega (arith, n)) (omega arith) (before high) room
          (subst (λ rule. IsChosen (narrowed rule (line model d v list)) plan) free.rule chosen).least)
    ]
  ]
    where
      before : (start_floor model d v +ℤ pos 1) ≤ℤ cumul plan 0 → IsTrue (allows (line model d v list) 0 (cumul plan 0 +ℤ negsuc 0))
      before high =
          let r = in_range model d v list plan keeps 0 (omega arith) in
          let top = r.1 in
          let row = found_is IsStopRow (λ row. row.key == v) (dimension_at model d).starts
          (well.each_dimension d no_dimension dimension).rows_of_starts.each_row in
          let a = start-before (dimension_at model d) (number_at (dimension_at model d).capacities v)
          (row_of (dimension_at model d).starts v) (cumul plan 0) row free.forbids_none (start_allowed model d v list plan keeps) high top in
          and_both (within (pos 0) horizon (cumul plan 0 +ℤ negsuc 0)) _
          (test_of_within (pos 0) horizon (cumul plan 0 +ℤ negsuc 0) (low a) (omega (arith, ints, top))) a
        where
          low : IsTrue (start_allows (dimension_at model d) (number_at (dimension_at model d).capacities v)
              (row_of (dimension_at model d).starts v) (cumul plan 0 +ℤ negsuc 0)) → pos 0 ≤ℤ (cumul plan 0 +ℤ negsuc 0)
          low a = (within_is (pos 0) _ _
              (and_left (within (pos 0) (number_at (dimension_at model d).capacities v) (cumul plan 0 +ℤ negsuc 0)) _
              (and_left (stop_allows (number_at (dimension_at model d).capacities v) (row_of (dimension_at model d).starts v) (cumul plan 0 +ℤ negsuc 0))
              _ a))).0

  by-way : span_by model d v (whole_way model d v list) ≤ℤ (last -ℤ cumul plan 0)
  by-way = go (starts_freely (vehicle_at model v) (dimension_at model d) v) refl
    where
      way : Way
      way = whole_way model d v list

      w : IsBelow (whole_way model d v list) last (cumul plan 0)
      w = whole model d v list plan keeps

      go : (b : Bool) → starts_freely (vehicle_at model v) (dimension_at model d) v ≡ b
          → cond b
          (int_min ((whole_way model d v list).time -ℤ start_floor model d v) ((dimension_at model d).slack_max +ℤ (whole_way model d v list).transits))
          (whole_way model d v list).transits ≤ℤ (last -ℤ cumul plan 0)
      go false e = w.transits
      go true e = elim (early-or-late (free-is model d v e)) [
        | inl low ↦ (let m = int_min_is ((whole_way model d v list).time -ℤ start_floor model d v)
            ((dimension_at model d).slack_max +ℤ (whole_way model d v list).transits) in
            omega (arith, ints, m, w.time, low))
        | inr full ↦ (let s = slack-below model d v list plan keeps some full in
            least-below ((whole_way model d v list).time -ℤ start_floor model d v)
            ((dimension_at model d).slack_max +ℤ (whole_way model d v list).transits) (last -ℤ cumul plan 0) s)
      ]

  no-earlier : IsNoEarlier model d v list plan
  no-earlier =
      let r = in_range model d v list plan keeps (suc (length list)) (omega arith) in
      let s = in_range model d v list plan keeps 0 (omega arith) in
      let w = (whole model d v list plan keeps).time in
      let b = by-way in
      let m = int_min_is horizon (span_by model d v (whole_way model d v list)) in
      let n = int_max_is (neg_ℤ horizon) (int_min horizon (span_by model d v (whole_way model d v list))) in
      record {
        last = least-below horizon (whole_way model d v list).time last w;
        span = omega (arith, ints, m, n, b, r.0, s.1);
      }

pub law : ChosenIsNoEarlier
law model well d v dimension list some plan chosen = no-earlier model well d v dimension list some plan chosen
