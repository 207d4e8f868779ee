-- Matrices, vehicles and visits as they are read.
use Rattle.std.proofs.Common.{◌≡◌, ℕ, ◌+◌, ◌*◌, ◌<◌, ◌≤◌, List, [], ◌∷◌, length, ap, ap₂, ◌∙◌, arith, length-append}
use Rattle.std.specs.Prelude.{ℤ, pos, codes, flat_map, IsTrue}
use Rattle.std.specs.List.{All}
use Rattle.std.proofs.lemmas.Bool.{and_from, not_from_false, lt-ltb}
use Rattle.std.proofs.lemmas.Int.{ints}
use Rattle.std.proofs.lemmas.List.Elements.{All-nil, All-append, All-head, All-tail}
use Rattle.vr_model.specs.tables.Tables.{is_visit}
use Rattle.vr_model.specs.tables.Limits.{least_value, greatest_cost}
use Rattle.vr_model.specs.tables.WellFormed.{IsMatrix, IsVehicle}
use Rattle.vr_model.specs.declared.records.Model.{Model}
use Rattle.vr_read.specs.declared.formats.Format.{Format}
use Rattle.vr_read.specs.Vehicles.{matrix, ends, vehicle, is_terminal, visit}
use Rattle.vr_json.proofs.Readings.{EachEnsures, IsFull, gives, after, any_value, whole_ensures, below_ensures, required_ensures, optional_ensures}
use Rattle.vr_json.proofs.Readings.{refuse_if_ensures, full_array_ensures}

-- rows of n entries each, one behind another
length-rows : (n : ℕ) (P : ℤ → Type 0) (rows : List (List ℤ)) → All (IsFull n P) rows → length (flat_map (λ row. row) rows) ≡ length rows * n
length-rows n P [] h = omega arith
length-rows n P (row ∷ rows) h =
    let first = (All-head (IsFull n P) row rows h).one_for_each in
    let rest = length-rows n P rows (All-tail (IsFull n P) row rows h) in
    length-append row (flat_map (λ row. row) rows) ∙ ap₂ (λ a b. a + b) first rest ∙ omega arith

All-rows : (n : ℕ) (P : ℤ → Type 0) (rows : List (List ℤ)) → All (IsFull n P) rows → All P (flat_map (λ row. row) rows)
All-rows n P [] h = All-nil P
All-rows n P (row ∷ rows) h =
    All-append P row (flat_map (λ row. row) rows) (All-head (IsFull n P) row rows h).each_entry (All-rows n P rows (All-tail (IsFull n P) row rows h))

pub matrix_ensures : (n : ℕ) → EachEnsures (IsMatrix n) (matrix n)
unfolding matrix
matrix_ensures n path d =
    after (full_array_ensures n (λ earlier. full_array_ensures n (λ so_far. whole_ensures least_value greatest_cost)) path d) λ rows h. gives (record {
      square = length-rows n _ rows h.each_entry ∙ ap (λ m. m * n) h.one_for_each;
      entries_in_range = All-rows n _ rows h.each_entry;
    })

ends_ensure : (n : ℕ) → EachEnsures (λ terminals. (terminals.0 < n) × (terminals.1 < n)) (ends n)
unfolding ends
ends_ensure n path d =
    after (required_ensures (codes "start") (below_ensures n) path d) λ start start_ok.
    after (required_ensures (codes "end") (below_ensures n) path d) λ final final_ok.
    gives (start_ok, final_ok)

pub vehicle_ensures : (version : Format) (model : Model) → 1 ≤ length model.matrices
    → EachEnsures (IsVehicle model) (vehicle version model.nodes (length model.matrices))
unfolding vehicle
vehicle_ensures version model some path d =
    after (ends_ensure model.nodes path d) λ terminals terminals_ok.
    after (optional_ensures (codes "costs") 0 some (below_ensures (length model.matrices)) path d) λ costs costs_ok.
    after (optional_ensures (codes "fixed") (pos 0) (record { at_least = omega (arith, ints); at_most = omega (arith, ints) })
    (whole_ensures (pos 0) greatest_cost) path d) λ fixed fixed_ok.
    after any_value λ policy _.
    after any_value λ rule _.
    after any_value λ others _.
    gives (record { start_in_range = terminals_ok.0; end_in_range = terminals_ok.1; costs_in_range = costs_ok; fixed_in_range = fixed_ok })

pub visit_ensures : (model : Model) → EachEnsures (λ node. IsTrue (is_visit model node)) (visit model.nodes model.vehicles)
unfolding visit
visit_ensures model path d =
    after (below_ensures model.nodes path d) λ node low.
    after (refuse_if_ensures (is_terminal model.vehicles node) _ _) λ served fresh.
    gives (and_from _ _ (lt-ltb node model.nodes low) (not_from_false _ fresh))
