-- Two of the worked models are well-formed, one with a dimension, a row and a break.
use Rattle.std.proofs.Common.{◌≡◌, ◌≤◌, ℕ, zero, suc, ◌<◌, false, List, [], ◌∷◌, length, map, Some, refl, inl, arith}
use Rattle.std.specs.Prelude.{ℤ, pos, IsTrue}
use Rattle.std.specs.List.{All, list_all}
use Rattle.std.proofs.lemmas.Int.{ints}
use Rattle.std.proofs.lemmas.List.Sums.{AllPass-from_list_all}
use Rattle.vr_model.specs.tables.Numbers.{within, horizon}
use Rattle.vr_model.specs.tables.Tables.{dimension_at}
use Rattle.vr_model.specs.tables.ModelRules.{cannot_save, has_negative_cost, has_large_entry, goes_back}
use Rattle.vr_model.specs.tables.Limits.{least_value, greatest_cost, greatest_value, greatest_coefficient, most_dimensions, most_nodes}
use Rattle.vr_model.specs.tables.WellFormed.{are_distinct_names, IsIn, IsMatrix, IsVehicle, IsEvaluator, IsBreak, AreBreaks, IsDimension, IsSearch}
use Rattle.vr_model.specs.tables.WellFormed.{IsWellFormed}
use Rattle.vr_model.specs.declared.records.Dimension.{Dimension}
use Rattle.vr_model.specs.deciding.Testing.{within_is}
use Rattle.vr_model.proofs.worked.WorkedModels.{default_search, car, model_of, rest_row, three_entries, three, rests_entries, rests_time, rests}

-- all of no entries, and of one
pub of_none : {A : Type 0} (P : A → Type 0) → All P []
of_none P k d low = absurd (omega (arith, low))

pub of_one : {A : Type 0} (P : A → Type 0) (x : A) → P x → All P (x ∷ [])
of_one P x h zero d low = h
of_one P x h (suc k) d low = absurd (omega (arith, low))

-- numbers in a range, by a test
pub in_range : (lo hi : ℤ) (xs : List ℤ) → IsTrue (list_all (within lo hi) xs) → All (IsIn lo hi) xs
in_range lo hi xs h k d low = let r = within_is lo hi _ (AllPass-from_list_all (within lo hi) xs h k d low) in record { at_least = r.0; at_most = r.1 }

pub one_in_range : (lo hi x : ℤ) → IsTrue (within lo hi x) → IsIn lo hi x
one_in_range lo hi x h = let r = within_is lo hi x h in record { at_least = r.0; at_most = r.1 }

-- what a model asks of a search that names nothing
pub default_is_search : IsSearch default_search
default_is_search = record {
  tries_in_range = omega arith;
  solutions_in_range = (omega arith, omega arith);
  p_in_range = one_in_range _ _ _ refl;
  q_in_range = one_in_range _ _ _ refl;
  cut_in_range = (omega arith, omega arith);
  tenure_in_range = (omega arith, omega arith);
  number_of_neighbourhoods = omega arith;
  no_neighbourhood_twice = refl;
}

-- a model of one matrix, one car, and no groups, pairs or rows of allowed vehicles is well-formed where its matrix and
-- its dimensions are
one_car : (n : ℕ) (entries : List ℤ) (dimensions : List Dimension) → (1 ≤ n) × (n ≤ most_nodes) → IsMatrix n (record { entries = entries })
    → length dimensions ≤ most_dimensions → All (IsDimension (model_of n entries (car ∷ []) dimensions)) dimensions
    → IsTrue (are_distinct_names (map (λ dimension. dimension.name) dimensions))
    → has_negative_cost (model_of n entries (car ∷ []) dimensions) 0 ≡ false
    → ((d k : ℕ) → d < length dimensions → k < length (dimension_at (model_of n entries (car ∷ []) dimensions) d).evaluators
    → has_large_entry (model_of n entries (car ∷ []) dimensions) d k ≡ false)
    → ((d : ℕ) → d < length dimensions → goes_back (model_of n entries (car ∷ []) dimensions) d ≡ false)
    → cannot_save (model_of n entries (car ∷ []) dimensions) ≡ false → IsWellFormed (model_of n entries (car ∷ []) dimensions)
one_car n entries dimensions nodes matrix few each names cost small forward saves = record {
  number_of_nodes = nodes;
  number_of_matrices = record { at_least = omega arith; at_most = omega arith };
  each_matrix = of_one (IsMatrix n) _ matrix;
  number_of_vehicles = record { at_least = omega arith; at_most = omega arith };
  each_vehicle = of_one (IsVehicle (model_of n entries (car ∷ []) dimensions)) car
      (record { start_in_range = nodes.0; end_in_range = nodes.0; costs_in_range = omega arith; fixed_in_range = one_in_range _ _ _ refl });
  number_of_dimensions = few;
  each_dimension = each;
  no_name_twice = names;
  number_of_groups = omega arith;
  each_group = of_none _;
  no_node_in_groups_twice = refl;
  number_of_pairs = omega arith;
  each_pair = of_none _;
  no_node_in_pairs_twice = refl;
  number_of_allowed = omega arith;
  each_allowed = of_none _;
  no_node_allowed_twice = refl;
  search_in_range = default_is_search;
  costs_not_negative = costs;
  entries_not_large = small;
  transits_forward = forward;
  can_save = saves;
}
  where
    costs : (v : ℕ) → v < 1 → has_negative_cost (model_of n entries (car ∷ []) dimensions) v ≡ false
    costs zero low = cost
    costs (suc v) low = absurd (omega (arith, low))

three_well_formed : IsWellFormed three
three_well_formed =
    one_car 3 three_entries [] (omega arith, omega arith) (record { square = refl; entries_in_range = in_range least_value greatest_cost three_entries refl })
    (omega arith) (of_none _) refl refl (λ d k low some. absurd (omega (arith, low))) (λ d low. absurd (omega (arith, low))) refl

rests_is_evaluator : IsEvaluator rests (record { matrix = Some 0; values = [] })
rests_is_evaluator = record { matrix_in_range = omega arith; values_of_all = inl refl; values_in_range = of_none _ }

rest_is_break : AreBreaks rest_row
rest_is_break = record {
  number_of_rows = record { at_least = omega arith; at_most = omega arith };
  each_row = of_one IsBreak _ (record {
    from_in_range = omega (arith, ints);
    in_order = omega (arith, ints);
    to_in_range = omega (arith, ints);
    duration_in_range = one_in_range _ _ _ refl;
  });
}

rests_is_dimension : IsDimension rests rests_time
rests_is_dimension = record {
  length_of_name = record { at_least = omega arith; at_most = omega arith };
  number_of_evaluators = record { at_least = omega arith; at_most = omega arith };
  each_evaluator = of_one (IsEvaluator rests) _ rests_is_evaluator;
  evaluator_of_each_vehicle = refl;
  vehicle_evaluators_in_range = of_one (λ k. k < 1) 0 (omega arith);
  slack_max_in_range = one_in_range _ _ _ refl;
  capacity_of_each_vehicle = refl;
  capacities_in_range = in_range (pos 0) horizon (pos 100 ∷ []) refl;
  visit_time_of_each_node = refl;
  visit_times_in_range = in_range (pos 0) greatest_value (pos 2 ∷ pos 2 ∷ []) refl;
  rows_of_visits = record { number_of_rows = omega arith; each_key_is_visit = of_none _; no_key_twice = refl; each_row = of_none _ };
  rows_of_starts = record { number_of_rows = omega arith; each_key_is_vehicle = of_none _; no_key_twice = refl; each_row = of_none _ };
  rows_of_ends = record { number_of_rows = omega arith; each_key_is_vehicle = of_none _; no_key_twice = refl; each_row = of_none _ };
  number_of_breaks = omega arith;
  each_break_of_vehicle = of_one (λ entry. entry.vehicle < 1) rest_row (omega arith);
  breaks_of_no_vehicle_twice = refl;
  each_breaks = of_one AreBreaks rest_row rest_is_break;
  span_cost_of_each_vehicle = refl;
  span_costs_in_range = in_range (pos 0) greatest_coefficient (pos 0 ∷ []) refl;
  global_span_cost_in_range = one_in_range _ _ _ refl;
}

rests_well_formed : IsWellFormed rests
rests_well_formed =
    one_car 2 rests_entries (rests_time ∷ []) (omega arith, omega arith)
    (record { square = refl; entries_in_range = in_range least_value greatest_cost rests_entries refl })
    (omega arith) (of_one (IsDimension rests) rests_time rests_is_dimension) refl refl entries transits refl
  where
    entries : (d k : ℕ) → d < 1 → k < length (dimension_at rests d).evaluators → has_large_entry rests d k ≡ false
    entries zero zero low some = refl
    entries zero (suc k) low some = absurd (omega (arith, some))
    entries (suc d) k low some = absurd (omega (arith, low))

    transits : (d : ℕ) → d < 1 → goes_back rests d ≡ false
    transits zero low = refl
    transits (suc d) low = absurd (omega (arith, low))
