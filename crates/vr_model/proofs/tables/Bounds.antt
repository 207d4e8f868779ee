-- The bounds of arc costs and transits of a well-formed model.
use Rattle.std.proofs.Common.{◌≡◌, ℕ, ◌+◌, ◌*◌, ◌<◌, ◌≤◌, ◌⊎◌, Bool, false, List, [], ◌∷◌, length, Option, Some, None, sym, subst, inl, inr, arith}
use Rattle.std.specs.Prelude.{ℤ, pos, negsuc, int_lt, slice_index_or}
use Rattle.std.specs.List.{list_any}
use Rattle.std.proofs.Math.Nat.{mul-le-mul_right}
use Rattle.std.proofs.lemmas.Int.{ints}
use Rattle.std.proofs.lemmas.List.Folds.{list_any_at}
use Rattle.vr_model.specs.tables.Numbers.{number_at}
use Rattle.vr_model.proofs.tables.Tests.{clash, fails}
use Rattle.vr_model.specs.declared.records.Model.{Model}
use Rattle.vr_model.specs.declared.records.Evaluator.{Evaluator}
use Rattle.vr_model.specs.tables.Tables.{no_matrix, no_vehicle, no_dimension, no_evaluator, matrix_at, entry, vehicle_at, dimension_at, evaluator_number}
use Rattle.vr_model.specs.tables.Tables.{evaluator_of, matrix_part, arc_cost, transit}
use Rattle.vr_model.specs.tables.ModelRules.{is_negative, greatest_entry, is_large}
use Rattle.vr_model.specs.tables.Limits.{least_value, greatest_cost, greatest_value}
use Rattle.vr_model.specs.tables.WellFormed.{IsIn, IsEvaluator, IsDimension, IsWellFormed, WherePresent}

-- the least and the greatest transit
abbrev pub least_transit : ℤ
least_transit = negsuc 2147483647

abbrev pub greatest_transit : ℤ
greatest_transit = pos 2147483648

-- row i and column j of an n by n matrix
pub place_low : (n i j : ℕ) → i < n → j < n → i * n + j < n * n
place_low n i j low next = let p : (i + 1) * n ≤ n * n = mul-le-mul_right n (omega (arith, low)) in omega (arith, p, next)

-- where a test passes at no entry of a list, it passes at none of its places
pub none_at : {A : Type 0} (p : A → Bool) (xs : List A) (k : ℕ) (d : A) → list_any p xs ≡ false → k < length xs → p (slice_index_or xs k d) ≡ false
none_at p xs k d none low = fails (p (slice_index_or xs k d)) (λ t. clash (list_any p xs) (list_any_at p xs k d low t) none)

module _ (model : Model) (well : IsWellFormed model) where
  -- the place of an entry in its matrix
  pub entry_low : (m i j : ℕ) → m < length model.matrices → i < model.nodes → j < model.nodes → i * model.nodes + j < length (matrix_at model m).entries
  entry_low m i j known low next = subst (λ n. i * model.nodes + j < n) (sym (well.each_matrix m no_matrix known).square) (place_low model.nodes i j low next)

  -- an entry of a matrix is in range
  pub entry_in_range : (m i j : ℕ) → m < length model.matrices → i < model.nodes → j < model.nodes → IsIn least_value greatest_cost (entry model m i j)
  entry_in_range m i j known low next = (well.each_matrix m no_matrix known).entries_in_range (i * model.nodes + j) (pos 0) (entry_low m i j known low next)

  -- an arc cost is in 0..=2^40
  pub arc_cost_in_range : (v i j : ℕ) → v < length model.vehicles → i < model.nodes → j < model.nodes → IsIn (pos 0) greatest_cost (arc_cost model v i j)
  arc_cost_in_range v i j known low next =
      let m = (well.each_vehicle v no_vehicle known).costs_in_range in
      let r = entry_in_range (vehicle_at model v).costs i j m low next in
      let n : is_negative (arc_cost model v i j) ≡ false = none_at is_negative _ (i * model.nodes + j)
      (pos 0) (well.costs_not_negative v known) (entry_low (vehicle_at model v).costs i j m low next) in
      record { at_least = omega (arith, ints, n); at_most = r.at_most }

  module _ (d v : ℕ) (dimension : d < length model.dimensions) (vehicle : v < length model.vehicles) where
    of_dimension : IsDimension model (dimension_at model d)
    of_dimension = well.each_dimension d no_dimension dimension

    -- the evaluator of each vehicle is one of the dimension
    pub evaluator_low : evaluator_number (dimension_at model d) v < length (dimension_at model d).evaluators
    evaluator_low = of_dimension.vehicle_evaluators_in_range v 0 (subst (λ n. v < n) (sym of_dimension.evaluator_of_each_vehicle) vehicle)

    pub of_evaluator : IsEvaluator model (evaluator_of (dimension_at model d) v)
    of_evaluator = of_dimension.each_evaluator (evaluator_number (dimension_at model d) v) no_evaluator evaluator_low

    -- what a matrix adds to a transit
    part_in_range : (matrix : Option ℕ) → WherePresent (λ m. m < length model.matrices) matrix → is_large model matrix ≡ false
        → (i j : ℕ) → i < model.nodes → j < model.nodes → IsIn least_value greatest_value (matrix_part model matrix i j)
    part_in_range None known small i j low next = record { at_least = omega (arith, ints); at_most = omega (arith, ints) }
    part_in_range (Some m) known small i j low next =
        let n : int_lt greatest_entry (entry model m i j) ≡ false = none_at (int_lt greatest_entry)
        _ (i * model.nodes + j) (pos 0) small (entry_low m i j known low next) in
        record { at_least = (entry_in_range m i j known low next).at_least; at_most = omega (arith, ints, n) }

    -- what a value adds to a transit
    value_in_range : (evaluator : Evaluator) → IsEvaluator model evaluator → (i : ℕ)
        → i < model.nodes → IsIn least_value greatest_value (number_at evaluator.values i)
    value_in_range evaluator is i low = go is.values_of_all
      where
        go : (length evaluator.values ≡ 0) ⊎ (length evaluator.values ≡ model.nodes) → IsIn least_value greatest_value (number_at evaluator.values i)
        go (inr all) = is.values_in_range i (pos 0) (subst (λ n. i < n) (sym all) low)
        go (inl none) = nothing evaluator.values none
          where
            nothing : (xs : List ℤ) → length xs ≡ 0 → IsIn least_value greatest_value (number_at xs i)
            nothing [] e = record { at_least = omega (arith, ints); at_most = omega (arith, ints) }
            nothing (x ∷ xs) e = absurd (omega (arith, e))

    -- a transit is in -2^31..=2^31
    pub transit_in_range : (i j : ℕ) → i < model.nodes → j < model.nodes → IsIn least_transit greatest_transit (transit model d v i j)
    transit_in_range i j low next =
        let small = well.entries_not_large d (evaluator_number (dimension_at model d) v) dimension evaluator_low in
        let p = part_in_range (evaluator_of (dimension_at model d) v).matrix of_evaluator.matrix_in_range small i j low next in
        let q = value_in_range (evaluator_of (dimension_at model d) v) of_evaluator i low in
        record { at_least = omega (arith, ints, p.at_least, q.at_least); at_most = omega (arith, ints, p.at_most, q.at_most) }
