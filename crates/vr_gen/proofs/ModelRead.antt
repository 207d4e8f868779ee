-- The model that a generated tree is read as: its table, and the rules on the whole model.
use Rattle.std.proofs.Common.{◌≡◌, ℕ, zero, suc, ◌+◌, ◌*◌, Bool, true, false, not, ◌&&◌, ◌||◌, List, [], ◌∷◌, map, length, Option, Some, None, Result, Ok, refl}
use Rattle.std.proofs.Common.{arith}
use Rattle.std.specs.Prelude.{ℤ, pos, ◌+ℤ◌, ◌≤ℤ◌, flat_map, int_lt, slice_index_or, ◌==◌, ⊤}
use Rattle.std.specs.List.{All, range_with_len}
use Rattle.std.proofs.lemmas.Int.{ints}
use Rattle.std.proofs.lemmas.List.Elements.{All-nil, All-cons, All-head, All-tail, All-append, All-map, All-weaker}
use Rattle.std.proofs.lemmas.List.Folds.{list_any_none}
use Rattle.vr_json.specs.declared.fault.Fault.{Fault}
use Rattle.vr_json.specs.declared.fault.Cause.TheVariants.{NegativeCost, LargeTransit, NegativeTransit, UnlikeVehicles}
use Rattle.vr_model.specs.tables.Numbers.{below, number_at}
use Rattle.vr_model.specs.tables.Tables.{matrix_at, no_matrix, vehicle_at, dimension_at, no_dimension, no_evaluator, matrix_part, evaluator_number, transit}
use Rattle.vr_model.specs.tables.ModelRules.{is_negative, has_negative_cost, greatest_entry, evaluator_at, is_large, has_negative_transit, has_breaks}
use Rattle.vr_model.specs.tables.ModelRules.{has_span_costs, cannot_save}
use Rattle.vr_model.specs.tables.WellFormed.{IsIn}
use Rattle.vr_model.specs.declared.records.Model.{Model}
use Rattle.vr_model.specs.declared.records.Matrix.{Matrix}
use Rattle.vr_model.specs.declared.records.Dimension.{Dimension}
use Rattle.vr_model.specs.declared.records.Evaluator.{Evaluator}
use Rattle.vr_json.specs.Reading.{and_then, at_path, field, if_present, required, optional, known, if_unknown, list, entries, array as array_of}
use Rattle.vr_json.specs.Kinds.{count as count_of}
use Rattle.vr_read.specs.declared.formats.Format.TheVariants.{One}
use Rattle.vr_read.specs.Formats.{format}
use Rattle.vr_read.specs.Vehicles.{vehicle as vehicle_of}
use Rattle.vr_read.specs.Visits.{group as group_of}
use Rattle.vr_read.specs.Rules.{for_all, rules}
use Rattle.vr_read.specs.Models.{base, visit_tables, parts, model_table, read_model}
use Rattle.vr_gen.specs.declared.draws.Site.{Site}
use Rattle.vr_gen.specs.declared.draws.Customer.{Customer}
use Rattle.vr_gen.specs.Generated.{vehicle, group, demand_of, services, model_of}
use Rattle.vr_gen.proofs.ExactReadings.{step, array_each, array_below, refuse_none}
use Rattle.vr_gen.proofs.TablesRead.{IsNear, IsModest, distance_read, distance_few, row_read, matrix_read, matrix_reads, vehicle_read, vehicles_read}
use Rattle.vr_gen.proofs.TablesRead.{vehicle_reads, values_read, times_evaluator, times_read, loads_evaluator, loads_read, dimensions_read, dimensions_read_as}
use Rattle.vr_gen.proofs.TablesRead.{group_read, group_reads, search_read, search_reads}

abbrev pub model_read : List Site → List Customer → Model
model_read sites customers = record {
  nodes = 61;
  matrices = matrix_read sites ∷ [];
  vehicles = vehicles_read;
  dimensions = dimensions_read customers;
  groups = map group_read (below 60);
  pairs = [];
  allowed = [];
  search = search_read;
}

-- ---- the rules, of any model with entries and values like these

-- what holds of all entries and of the default holds at any place
at_any : {A : Type 0} (P : A → Type 0) (xs : List A) (k : ℕ) (d : A) → All P xs → P d → P (slice_index_or xs k d)
at_any P [] k d h p = p
at_any P (x ∷ xs) zero d h p = All-head P x xs h
at_any P (x ∷ xs) (suc k) d h p = at_any P xs k d (All-tail P x xs h) p

pub for_range_passes : (rule : ℕ → Result ⊤ Fault) (a n : ℕ) → ((k : ℕ) → rule k ≡ Ok tt) → for_all (range_with_len a n) rule ≡ Ok tt
unfolding for_all and_then
for_range_passes rule a zero h = refl
for_range_passes rule a (suc n) h = step _ (h a) (for_range_passes rule (a + 1) n h)

pub not_negative : (z : ℤ) → pos 0 ≤ℤ z → is_negative z ≡ false
not_negative z h = grind (arith, ints)

not_large : (z : ℤ) → z ≤ℤ pos 2000 → int_lt greatest_entry z ≡ false
not_large z h = grind (arith, ints)

up_sum : (x y : ℤ) → pos 0 ≤ℤ x → pos 0 ≤ℤ y → pos 0 ≤ℤ (x +ℤ y)
up_sum x y h k = omega (arith, ints, h, k)

and_false : (a b : Bool) → b ≡ false → (a && b) ≡ false
and_false true b h = h
and_false false b h = refl

-- entries and values are small and not negative
record IsForward (model : Model) : Type 0 where
  entries : (m : ℕ) → All (IsIn (pos 0) (pos 2000)) (matrix_at model m).entries
  values : (d k : ℕ) → All (λ z. pos 0 ≤ℤ z) (evaluator_at (dimension_at model d) k).values

module _ (model : Model) (forward : IsForward model) where
  no_negative_cost : (v : ℕ) → has_negative_cost model v ≡ false
  no_negative_cost v =
      let entries = (matrix_at model (vehicle_at model v).costs).entries in
      list_any_none is_negative entries
      (All-weaker (IsIn (pos 0) (pos 2000)) (λ z. is_negative z ≡ false) (λ z h. not_negative z h.at_least) entries (forward.entries _))

  no_large : (o : Option ℕ) → is_large model o ≡ false
  no_large None = refl
  no_large (Some m) =
      let entries = (matrix_at model m).entries in
      list_any_none (int_lt greatest_entry) entries
      (All-weaker (IsIn (pos 0) (pos 2000)) (λ z. int_lt greatest_entry z ≡ false) (λ z h. not_large z h.at_most) entries (forward.entries m))

  matrix_part_up : (o : Option ℕ) (i j : ℕ) → pos 0 ≤ℤ matrix_part model o i j
  matrix_part_up None i j = omega (arith, ints)
  matrix_part_up (Some m) i j =
      let entries = (matrix_at model m).entries in
      at_any (λ z. pos 0 ≤ℤ z) entries (i * model.nodes + j) (pos 0)
      (All-weaker (IsIn (pos 0) (pos 2000)) (λ z. pos 0 ≤ℤ z) (λ z h. h.at_least) entries (forward.entries m)) (omega (arith, ints))

  transit_up : (d v i j : ℕ) → pos 0 ≤ℤ transit model d v i j
  transit_up d v i j =
      let k = evaluator_number (dimension_at model d) v in
      let evaluator = evaluator_at (dimension_at model d) k in
      let part = matrix_part_up evaluator.matrix i j in
      let value = at_any (λ z. pos 0 ≤ℤ z) evaluator.values i (pos 0) (forward.values d k) (omega (arith, ints)) in
      up_sum (matrix_part model evaluator.matrix i j) (number_at evaluator.values i) part value

  no_negative_transit : (d : ℕ) → has_negative_transit model d ≡ false
  no_negative_transit d =
      list_any_none _ (below (length model.vehicles)) λ p v0 low.
      (let v = slice_index_or (below (length model.vehicles)) p v0 in
      list_any_none _ (below model.nodes) λ q i0 low.
      (let i = slice_index_or (below model.nodes) q i0 in
      list_any_none _ (below model.nodes) λ r j0 low.
      (let j = slice_index_or (below model.nodes) r j0 in
      and_false (not (i == j)) _ (not_negative (transit model d v i j) (transit_up d v i j)))))

  rules_pass : (path : List ℕ) → cannot_save model ≡ false → rules path model ≡ Ok tt
  unfolding rules and_then
  rules_pass path may =
      step _ (for_range_passes _ 0 (length model.vehicles) (λ v. refuse_none NegativeCost _ (no_negative_cost v)))
      (step _
      (for_range_passes _ 0 (length model.dimensions)
      (λ d. for_range_passes _ 0 (length (dimension_at model d).evaluators)
      (λ k. refuse_none LargeTransit _ (no_large (evaluator_at (dimension_at model d) k).matrix))))
      (step _
      (for_range_passes _ 0 (length model.dimensions)
      (λ d. refuse_none NegativeTransit _
      (and_false (has_breaks (dimension_at model d) || has_span_costs (dimension_at model d)) _ (no_negative_transit d))))
      (refuse_none UnlikeVehicles _ may)))

-- ---- the model

all_joined : (P : ℤ → Type 0) (rows : List (List ℤ)) → All (All P) rows → All P (flat_map (λ row. row) rows)
all_joined P [] h = All-nil P
all_joined P (row ∷ rows) h = All-append P row (flat_map (λ row. row) rows) (All-head (All P) row rows h) (all_joined P rows (All-tail (All P) row rows h))

module _ (sites : List Site) (customers : List Customer) where
  table_reads : (path : List ℕ) → length sites ≡ 61 → length customers ≡ 60 → All IsNear sites
      → All IsModest customers → model_table path (model_of sites customers) ≡ Ok (model_read sites customers)
  unfolding model_table base parts visit_tables model_of format count_of required
      optional known if_unknown field if_present array_of list entries at_path and_then
  table_reads path sites_all customers_all near modest =
      step _ (step _ (step _ (matrix_reads 61 sites sites_all near _) refl)
      (step _
      (array_each (λ so_far. vehicle_of One 61 1) (λ v. vehicle) (λ v. vehicle_read) 1 100 _
      (below 6) (omega arith) (omega arith) (λ k d low earlier path. vehicle_reads path)) refl))
      (step _ (step _ (dimensions_read_as customers _ customers_all modest)
      (step _ (step _ (array_below (group_of 61 vehicles_read) group group_read 60 group_reads 0 1000 _ (omega arith) (omega arith)) refl)
      (step _ (search_reads _) refl)))
      refl)

  entries_in : All IsNear sites → All (IsIn (pos 0) (pos 2000)) (matrix_read sites).entries
  entries_in near = all_joined (IsIn (pos 0) (pos 2000)) (map (row_read sites) sites)
      (All-map (All (IsIn (pos 0) (pos 2000))) (row_read sites) sites
      (All-weaker IsNear (λ a. All (IsIn (pos 0) (pos 2000)) (row_read sites a)) row_in sites near))
    where
      row_in : (a : Site) → IsNear a → All (IsIn (pos 0) (pos 2000)) (row_read sites a)
      row_in a h =
          All-map (IsIn (pos 0) (pos 2000)) (λ b. pos (distance_read a b)) sites (All-weaker IsNear (λ b. IsIn (pos 0) (pos 2000) (pos (distance_read a b)))
          (λ b k. let few = distance_few a b h k in record { at_least = omega (arith, ints); at_most = omega (arith, ints, few) }) sites near)

  values_up : (others : List ℕ) → All (λ z. pos 0 ≤ℤ z) (values_read others)
  values_up others = All-map (λ z. pos 0 ≤ℤ z) pos (0 ∷ others) (λ k d low. omega (arith, ints))

  is_forward : All IsNear sites → IsForward (model_read sites customers)
  is_forward near = record {
    entries = λ m. at_any AreEntries (matrix_read sites ∷ []) m no_matrix
        (All-cons AreEntries (matrix_read sites) [] (entries_in near) (All-nil AreEntries)) (All-nil (IsIn (pos 0) (pos 2000)));
    values = λ d k. at_any AreUp (dimension_at (model_read sites customers) d).evaluators k no_evaluator
        (at_any AreAllUp (dimensions_read customers) d no_dimension both (All-nil AreUp)) (All-nil (λ z. pos 0 ≤ℤ z));
  }
    where
      AreEntries : Matrix → Type 0
      AreEntries matrix = All (IsIn (pos 0) (pos 2000)) matrix.entries

      AreUp : Evaluator → Type 0
      AreUp evaluator = All (λ z. pos 0 ≤ℤ z) evaluator.values

      AreAllUp : Dimension → Type 0
      AreAllUp dimension = All AreUp dimension.evaluators

      both : All AreAllUp (dimensions_read customers)
      both = All-cons AreAllUp (times_read customers) (loads_read customers ∷ []) (All-cons AreUp times_evaluator [] (values_up services) (All-nil AreUp))
          (All-cons AreAllUp (loads_read customers) []
          (All-cons AreUp (loads_evaluator customers) [] (values_up (map demand_of customers)) (All-nil AreUp)) (All-nil AreAllUp))

  pub model_reads : (path : List ℕ) → length sites ≡ 61 → length customers ≡ 60 → All IsNear sites
      → All IsModest customers → read_model path (model_of sites customers) ≡ Ok (model_read sites customers)
  unfolding read_model and_then
  model_reads path sites_all customers_all near modest =
      step _ (table_reads path sites_all customers_all near modest) (step _ (rules_pass (model_read sites customers) (is_forward near) path refl) refl)
