-- Tables of what visits allow, one for each capacity, and what is kept of each vehicle.
use Rattle.std.proofs.Common.{◌≡◌, ◌∙◌, ◌+◌, ◌<◌, ℕ, zero, suc, List, [], ◌∷◌, ◌++◌, length, get_or, map, take, to_z, of_z, w64, refl, ap, sym, subst, arith, ℤ}
use Rattle.std.proofs.Common.{pos, inl, inr}
use Rattle.std.proofs.lemmas.Bool.{cases_lt}
use Rattle.std.proofs.lemmas.List.{get_or_append_left, get_or_push, length-append, take_more}
use Rattle.vr_spans.specs.declared.runs.Run.{Run}
use Rattle.std.proofs.lemmas.Int.{ints}
use Rattle.vr_model.specs.tables.Numbers.{horizon, number_at}
use Rattle.vr_model.specs.tables.Tables.{no_dimension}
use Rattle.vr_model.specs.tables.WellFormed.{IsDimension, IsIn, IsWellFormed}
use Rattle.vr_model.specs.declared.records.Dimension.{Dimension}
use Rattle.vr_model.specs.declared.records.Model.{Model}
use Rattle.vr_reach.specs.declared.ends.Ends.{Ends}
use Rattle.vr_reach.specs.declared.stops.Stops.{Stops}
use Rattle.vr_reach.specs.declared.stops.StopsFor.{StopsFor}
use Rattle.vr_reach.specs.declared.visits.VisitSets.{VisitSets}
use Rattle.vr_reach.specs.Stops.{AreEndsOf, AreStops}
use Rattle.vr_reach.specs.VehicleStops.{AreStopsFor}
use Rattle.vr_reach.specs.VisitSets.{capacity_of, AreSets, AreSetsUnder, AreTablesUnder, AreVisitSets, IsTableOf}

-- what holds of each entry at its place holds with one entry more
pub each_push : {A : Type 0} (P : ℕ → A → Type 0) (xs : List A) (x : A) → ((k : ℕ) (d : A) → k < length xs → P k (get_or xs k d))
    → P (length xs) x → (k : ℕ) (d : A) → k < length (xs ++ x ∷ []) → P k (get_or (xs ++ x ∷ []) k d)
each_push P [] x each last zero d lt = last
each_push P [] x each last (suc k) d lt = absurd (omega (arith, lt))
each_push P (y ∷ ys) x each last zero d lt = each zero d (omega arith)
each_push P (y ∷ ys) x each last (suc k) d lt = each_push (λ j. P (suc j)) ys x (λ j e less. each (suc j) e (omega (arith, less))) last k d (omega (arith, lt))

-- the ends of a vehicle, as code reads them
pub ends_here : (model : Model) (d v : ℕ) (stops : Stops) → AreStops model d stops → v < length model.vehicles
    → (ends : Ends) → ends ≡ get_or stops.ends.items v ends → AreEndsOf model d v ends
ends_here model d v stops are low ends is = subst (AreEndsOf model d v) (sym is) (are.ends v ends (let n = are.ends_of_each in omega (arith, low, n)))

-- the same for one of the vehicles
pub ends_for : {stops : StopsFor} {ends : Ends} → AreStopsFor stops
    → ends ≡ get_or stops.of_dimension.now.ends.items stops.v ends → AreEndsOf stops.closed.model.now stops.d stops.v ends
ends_for {stops} {ends} known is = ends_here stops.closed.model.now stops.d stops.v stops.of_dimension.now known.are known.vehicle ends is

-- it has a number of a table
pub has_table : {stops : StopsFor} → AreStopsFor stops → stops.v < length stops.of_dimension.now.visits.table_of
has_table known = let n = known.are.visits.one_of_each in let low = known.vehicle in omega (arith, n, low)

-- a capacity more leaves the places of the others
pub table_stays : (model : Model) (d w k : ℕ) (capacities : List ℤ) (capacity : ℤ)
    → IsTableOf model d w capacities k → IsTableOf model d w (capacities ++ capacity ∷ []) k
table_stays model d w k capacities capacity is = record {
  there = let n = length-append capacities (capacity ∷ []) in let low = is.there in omega (arith, n, low);
  same = get_or_append_left capacities (capacity ∷ []) (pos 0) k is.there ∙ is.same;
}

-- the table of a new capacity is the last
pub table_is_last : (model : Model) (d v k : ℕ) (capacities : List ℤ) (capacity : ℤ)
    → capacity ≡ capacity_of model d v → length capacities ≡ k → IsTableOf model d v (capacities ++ capacity ∷ []) k
table_is_last model d v k capacities capacity is last = record {
  there = let n = length-append capacities (capacity ∷ []) in omega (arith, n, last);
  same = get_or_push capacities capacity (pos 0) k last ∙ is;
}

-- tables with one more
pub tables_more : (model : Model) (d v : ℕ) (capacities : List ℤ) (tables : List (List (List Run))) (capacity : ℤ) (sets : List (List Run))
    → AreTablesUnder model d capacities tables → capacity ≡ capacity_of model d v → AreVisitSets model d v sets
    → AreTablesUnder model d (capacities ++ capacity ∷ []) (tables ++ sets ∷ [])
tables_more model d v capacities tables capacity sets are is new = record {
  one_of_each =
      let n = length-append capacities (capacity ∷ []) in
      let m = length-append tables (sets ∷ []) in
      let same = are.one_of_each in
      omega (arith, n, m, same);
  each = λ k low. elim (cases_lt k (length tables)) [
    | inl before ↦ subst (λ c. AreSetsUnder model d c (get_or (tables ++ sets ∷ []) k []))
        (sym (get_or_append_left capacities (capacity ∷ []) (pos 0) k (let same = are.one_of_each in omega (arith, before, same))))
        (subst (AreSetsUnder model d (number_at capacities k)) (sym (get_or_append_left tables (sets ∷ []) [] k before)) (are.each k before))
    | inr past ↦ (
        let m = length-append tables (sets ∷ []) in
        let at : length tables ≡ k = omega (arith, low, past, m) in
        let at_too : length capacities ≡ k = sym are.one_of_each ∙ at in
        subst (λ c. AreSetsUnder model d c (get_or (tables ++ sets ∷ []) k [])) (sym (get_or_push capacities capacity (pos 0) k at_too ∙ is))
        (subst (AreSetsUnder model d (capacity_of model d v)) (sym (get_or_push tables sets [] k at)) new))
  ];
}

-- the table of a vehicle has what visits allow it
pub table_here : (model : Model) (d v k : ℕ) (sets : VisitSets) → AreTablesUnder model d sets.capacities sets.tables
    → IsTableOf model d v sets.capacities k → AreVisitSets model d v (get_or sets.tables k [])
table_here model d v k sets are is = subst (λ c. AreSetsUnder model d c (get_or sets.tables k []))
    is.same (are.each k (let same = are.one_of_each in let low = is.there in omega (arith, same, low)))

-- there is the table of a vehicle
pub table_there : (model : Model) (d v : ℕ) (sets : VisitSets) → AreSets model d (length model.vehicles) sets
    → v < length model.vehicles → get_or sets.table_of v 0 < length sets.tables
table_there model d v sets are low = let there = (are.each v low).there in let same = are.tables.one_of_each in omega (arith, there, same)

-- one entry more of the first of a whole
pub push_taken : {A : Type 0} (whole made : List A) (k : ℕ) (x d : A) → k < length whole
    → made ≡ take k whole → x ≡ get_or whole k d → made ++ x ∷ [] ≡ take (k + 1) whole
push_taken whole made k x d low is here = ap (λ xs. xs ++ x ∷ []) is ∙ (ap (λ y. take k whole ++ y ∷ []) here ∙ sym (take_more whole k d low))

pub read_map : {A B : Type 0} (f : A → B) (xs : List A) (k : ℕ) (d : A) (e : B) → k < length xs → get_or (map f xs) k e ≡ f (get_or xs k d)
read_map f [] k d e low = absurd (omega (arith, low))
read_map f (x ∷ xs) zero d e low = refl
read_map f (x ∷ xs) (suc k) d e low = read_map f xs k d e (omega (arith, low))

-- the capacity of a vehicle, as code reads and keeps it
pub capacity_read : (model : Model) → IsWellFormed model → (d v : ℕ) → d < length model.dimensions → v < length model.vehicles
    → (dimension : Dimension) → get_or model.dimensions d no_dimension ≡ dimension → (x : ℤ) → get_or dimension.capacities v (pos 0) ≡ x
    → to_z w64 (of_z w64 x) ≡ capacity_of model d v
capacity_read model well d v low_d low_v dimension dimension_is x x_is =
    let is = subst (IsDimension model) dimension_is (well.each_dimension d no_dimension low_d) in
    let many = is.capacity_of_each_vehicle in
    let range = subst (IsIn (pos 0) horizon) x_is (is.capacities_in_range v (pos 0) (omega (arith, many, low_v))) in
    let fits : to_z w64 (of_z w64 x) ≡ x = omega (arith, ints, range.at_least, range.at_most) in
    fits ∙ (sym x_is ∙ ap (λ (e : Dimension). number_at e.capacities v) (sym dimension_is))
