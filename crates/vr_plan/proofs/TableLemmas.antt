-- What was looked up of dimensions, as code reads it.
use Rattle.std.proofs.Common.{◌≡◌, ◌∙◌, ◌<◌, ◌≤◌, ◌+◌, ℕ, zero, suc, take, Bor, None, List, [], ◌∷◌, ◌++◌, Bool, true, false, cond, not, Option, Some, map}
use Rattle.std.proofs.Common.{length, get_or, refl, ap, sym, subst, arith}
use Rattle.std.specs.Prelude.{◌==◌, find, slice_get, All}
use Rattle.std.specs.List.{list_all}
use Rattle.std.specs.Option.{option_copied}
use Rattle.std.specs.Slice.{IsItemAt}
use Rattle.std.proofs.lemmas.Bool.Decides.{nat_tests}
use Rattle.std.proofs.lemmas.List.{map-append, take_more}
use Rattle.std.proofs.lemmas.Option.{slice_get_past, slice_get_read}
use Rattle.vr_model.specs.declared.records.StopRow.{StopRow}
use Rattle.vr_model.specs.declared.records.Dimension.{Dimension}
use Rattle.vr_model.specs.declared.records.Model.{Model}
use Rattle.vr_model.specs.tables.Tables.{dimension_at, is_visit}
use Rattle.vr_model.specs.routes.Rules.{place_of}
use Rattle.vr_model.proofs.routes.Lists.{visit_below, visit_at}
use Rattle.vr_plan.specs.declared.tables.Table.{Table}
use Rattle.vr_lists.specs.Places.{ArePlaces}
use Rattle.vr_plan.specs.Tables.{keys_of, AreTables, IsTable}

found_cons : {A : Type 0} (x : A) (xs : List A) (b : Bool) (p : ℕ) (rest : Option A)
    → slice_get xs p ≡ rest → slice_get (x ∷ xs) (cond (not b) (1 + p) 0) ≡ cond b (Some x) rest
found_cons x xs true p rest e = refl
found_cons x xs false p rest e = let more : 1 + p ≡ suc p = omega arith in ap (slice_get (x ∷ xs)) more ∙ e

-- the entry at the place of a key among the keys is the first that has it
pub found_at : {A : Type 0} (key : A → ℕ) (xs : List A) (k : ℕ) → slice_get xs (place_of (map key xs) k) ≡ find (λ x. key x == k) xs
found_at key [] k = refl
found_at key (x ∷ xs) k = found_cons x xs (key x == k) (place_of (map key xs) k) (find (λ x. key x == k) xs) (found_at key xs k)

-- the element that code finds at a place, if there is one
pub item_at : {A : Type 0} (xs : List A) (k : ℕ) (found : Option (Bor A)) → IsItemAt xs k found → option_copied found ≡ slice_get xs k
item_at xs k None h = let low : length xs ≤ k = (let e = h.0 in grind (arith, nat_tests)) in sym (slice_get_past xs k low)
item_at xs k (Some x) h = let low : k < length xs = (let e = h.0 in grind (arith, nat_tests)) in sym (slice_get_read xs (length xs) k x.now refl low h.1)

-- the keys of one row more
pub keys_more : (rows : List StopRow) (k : ℕ) (row : StopRow) → k < length rows
    → get_or rows k row ≡ row → keys_of (take k rows) ++ row.key ∷ [] ≡ keys_of (take (k + 1) rows)
keys_more rows k row low is =
    sym (ap keys_of (take_more rows k row low ∙ ap (λ (r : StopRow). take k rows ++ r ∷ []) is) ∙ map-append (λ (r : StopRow). r.key) (take k rows) (row ∷ []))

-- keys that are visits are nodes
pub keys_below : (model : Model) (rows : List StopRow) → ((k : ℕ) (d : StopRow) → k < length rows → is_visit model (get_or rows k d).key ≡ true)
    → (k d : ℕ) → k < length (keys_of rows) → get_or (keys_of rows) k d < model.nodes
keys_below model [] visits k d low = absurd (omega (arith, low))
keys_below model (row ∷ rows) visits zero d low = visit_below model row.key (visits 0 row (omega arith))
keys_below model (row ∷ rows) visits (suc k) d low = keys_below model rows (λ j other less. visits (suc j) other (omega (arith, less))) k d (omega (arith, low))

-- the table of a dimension
pub table_at : (model : Model) (tables : List Table) → AreTables model tables → (d : ℕ) (table : Table)
    → table ≡ get_or tables d table → d < length model.dimensions → IsTable model d table
table_at model tables are d table is low = subst (IsTable model d) (sym is) (are.each d table (let n = are.one_of_each in omega (arith, low, n)))

-- the places that it has, beside the rows of the dimension
module _ (model : Model) (d : ℕ) (table : Table) (is : IsTable model d table) (places : List ℕ) (read : places ≡ table.row_places.items) where
  long : length places ≡ model.nodes
  long = ap length read ∙ is.places.one_of_each

  pub places_here : (dimension : Dimension) → dimension_at model d ≡ dimension → ArePlaces (length places) (keys_of dimension.nodes) places
  places_here dimension same = record {
    one_of_each = refl;
    each = λ node other low. ap (λ (xs : List ℕ). get_or xs node other) read
        ∙ is.places.each node other (let n = long in omega (arith, low, n)) ∙ ap (λ (x : Dimension). place_of (keys_of x.nodes) node) same;
  }

  pub nodes_here : (list : List ℕ) → list_all (is_visit model) list ≡ true → All (λ node. node < length places) list
  nodes_here list visits = subst (λ n. All (λ node. node < n) list) (sym long) (λ k other low. visit_at model list k other visits low)
