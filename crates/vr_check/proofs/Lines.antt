-- A line, place by place.
use Rattle.std.proofs.Common.{◌≡◌, ℕ, zero, suc, ◌+◌, ◌<◌, ◌≤◌, Bool, true, false, not, ◌&&◌, ◌||◌, List, [], ◌∷◌, ◌++◌, length, get_or, map, Option, None}
use Rattle.std.proofs.Common.{refl, sym, ap, ◌∙◌, arith}
use Rattle.std.specs.Prelude.{ℤ, pos, ◌≤ℤ◌, slice_index_or, ◌==◌}
use Rattle.std.proofs.Math.Bool.{and-false, and-true, and_assoc}
use Rattle.std.proofs.lemmas.Int.{ints}
use Rattle.std.proofs.lemmas.List.{length-map, length-append}
use Rattle.vr_model.specs.tables.Numbers.{within, horizon, number_at, is_same_number}
use Rattle.vr_model.specs.tables.Tables.{no_dimension, dimension_at, vehicle_at, row_of}
use Rattle.vr_model.specs.tables.WellFormed.{IsWellFormed}
use Rattle.vr_model.specs.routes.Routes.{stops}
use Rattle.vr_model.specs.schedules.Lines.{line, line_arc, stop_allows, start_allows, stop_rows, row_allows}
use Rattle.vr_model.specs.schedules.Schedules.{allows, arc_at, no_arc}
use Rattle.vr_model.proofs.schedules.LineArcs.{arc_through, arcs_of_line}
use Rattle.vr_model.specs.deciding.Testing.{within_is, test_of_within}
use Rattle.vr_model.specs.declared.records.Model.{Model}
use Rattle.vr_model.specs.declared.records.StopRow.{StopRow}
use Rattle.vr_check.specs.Asked.{arc_count, is_let, keeps_fixed_start, asked_line}
use Rattle.vr_check.specs.declared.asked_line.AskedLine.{AskedLine}

ends_and_middle : {B : Type 0} (f : ℕ → B) (list : List ℕ) (first last : B) → length (first ∷ (map f list ++ last ∷ [])) ≡ length list + 2
ends_and_middle f list first last = omega (arith, length-append (map f list) (last ∷ []), length-map list f)

-- ---- what a stop allows

-- no capacity is above the horizon
within_horizon : (capacity x : ℤ) (b : Bool) → capacity ≤ℤ horizon
    → (within (pos 0) horizon x && (within (pos 0) capacity x && b)) ≡ (within (pos 0) capacity x && b)
within_horizon capacity x b high = go (within (pos 0) capacity x) refl
  where
    go : (w : Bool) → within (pos 0) capacity x ≡ w → (within (pos 0) horizon x && (w && b)) ≡ (w && b)
    go true e = let r = within_is (pos 0) capacity x e in ap (λ h. h && b) (test_of_within (pos 0) horizon x r.0 (omega (arith, ints, r.1, high)))
    go false e = and-false (within (pos 0) horizon x)

stop_in_list : (capacity : ℤ) (rows : List StopRow) (last : Option StopRow) (list : List ℕ) (j : ℕ) → j ≤ length list
    → slice_index_or (map (λ node. stop_allows capacity (row_of rows node)) list ++ stop_allows capacity last ∷ []) j (λ x. false)
    ≡ stop_allows capacity (slice_index_or (map (row_of rows) list ++ last ∷ []) j None)
stop_in_list capacity rows last [] zero low = refl
stop_in_list capacity rows last [] (suc j) low = absurd (omega arith)
stop_in_list capacity rows last (node ∷ list) zero low = refl
stop_in_list capacity rows last (node ∷ list) (suc j) low = stop_in_list capacity rows last list j (omega arith)

not_start : (j : ℕ) → (suc j == 0) ≡ false
not_start j = grind arith

module _ (model : Model) (d v : ℕ) (list : List ℕ) where
  pub line_arcs : length (line model d v list).arcs ≡ length list + 1
  line_arcs = let n = arcs_of_line model d v list in omega (arith, n)

  pub line_stops : length (line model d v list).allowed ≡ length list + 2
  line_stops =
      let capacity = number_at (dimension_at model d).capacities v in
      ends_and_middle (λ node. stop_allows capacity (row_of (dimension_at model d).nodes node)) list
      (start_allows (dimension_at model d) capacity (row_of (dimension_at model d).starts v)) (stop_allows capacity (row_of (dimension_at model d).ends v))

  pub arc_is : (k : ℕ) → k ≤ length list → arc_at (line model d v list) k
      ≡ line_arc model d v (record { vehicle = v; origin = get_or (stops model v list) k 0; target = get_or (stops model v list) (suc k) 0 })
  arc_is k low = arc_through (line_arc model d v) v (vehicle_at model v).start (list ++ (vehicle_at model v).end ∷ [])
      k no_arc (omega (arith, low, length-append list ((vehicle_at model v).end ∷ [])))

  -- what a stop allows, by its row
  pub allows_by_its_row : number_at (dimension_at model d).capacities v ≤ℤ horizon → (k : ℕ) (x : ℤ) → k ≤ length list + 1
      → (stop_allows (number_at (dimension_at model d).capacities v) (slice_index_or (stop_rows (dimension_at model d) v list) k None) x
      && (not (k == 0) || (not (dimension_at model d).fix_start || is_same_number x (pos 0)))) ≡ allows (line model d v list) k x
  allows_by_its_row high zero x low =
      let capacity = number_at (dimension_at model d).capacities v in
      let lets = row_allows (row_of (dimension_at model d).starts v) x in
      let free = not (dimension_at model d).fix_start || is_same_number x (pos 0) in
      and_assoc (within (pos 0) capacity x) lets free ∙ sym (within_horizon capacity x (lets && free) high)
      ∙ ap (λ b. within (pos 0) horizon x && b) (sym (and_assoc (within (pos 0) capacity x) lets free))
  allows_by_its_row high (suc j) x low =
      let capacity = number_at (dimension_at model d).capacities v in
      let row = slice_index_or (map (row_of (dimension_at model d).nodes) list ++ row_of (dimension_at model d).ends v ∷ []) j None in
      let free = not (dimension_at model d).fix_start || is_same_number x (pos 0) in
      ap (λ b. stop_allows capacity row x && (not b || free)) (not_start j)
      ∙ and-true (stop_allows capacity row x) ∙ sym (within_horizon capacity x (row_allows row x) high)
      ∙ ap (λ test. within (pos 0) horizon x && test x)
      (sym (stop_in_list capacity (dimension_at model d).nodes (row_of (dimension_at model d).ends v) list j (omega arith)))

-- no capacity of a well-formed model is above the horizon
pub capacity_high : (model : Model) → IsWellFormed model → (d v : ℕ) → d < length model.dimensions
    → v < length model.vehicles → number_at (dimension_at model d).capacities v ≤ℤ horizon
capacity_high model well d v dimension vehicle =
    let of = well.each_dimension d no_dimension dimension in
    (of.capacities_in_range v (pos 0) (omega (arith, vehicle, of.capacity_of_each_vehicle))).at_most

-- what a line allows that is asked
pub asked_allows : (it : AskedLine) (k : ℕ) (x : ℤ) → k ≤ arc_count it → (is_let it k x && keeps_fixed_start it k x) ≡ allows (asked_line it) k x
asked_allows it k x stop = allows_by_its_row it.model.now it.d it.v it.list.now
    (capacity_high it.model.now it.known.well_formed it.d it.v it.known.dimension it.known.vehicle) k x stop
