-- An even model of three nodes: the worked model of two cars, with one of them.
use Rattle.std.proofs.Common.{◌≡◌, ◌≢◌, ℕ, zero, suc, ◌<◌, true, false, [], ◌∷◌, length, refl, inl, arith}
use Rattle.std.specs.Prelude.{pos}
use Rattle.vr_model.specs.tables.Numbers.{number_at, horizon}
use Rattle.vr_model.specs.tables.Tables.{dimension_at, matrix_at, transit}
use Rattle.vr_model.specs.tables.ModelRules.{has_negative_cost, has_large_entry, goes_back}
use Rattle.vr_model.specs.tables.Limits.{least_value, greatest_cost, greatest_value, greatest_coefficient}
use Rattle.vr_model.specs.tables.WellFormed.{IsMatrix, IsVehicle, IsEvaluator, IsDimension, IsWellFormed}
use Rattle.vr_model.specs.declared.records.Dimension.{Dimension}
use Rattle.vr_model.specs.declared.records.Model.{Model}
use Rattle.vr_model.proofs.worked.WorkedModels.{car, time, two_cars}
use Rattle.vr_model.proofs.worked.WorkedWellFormed.{default_is_search, in_range, of_none, of_one, one_in_range}
use Rattle.vr_steps.specs.Even.{IsEven}

abbrev dimension : Dimension
dimension = record (time 3) { fix_start = true; capacities = horizon ∷ [] }

abbrev pub three : Model
three = record two_cars { vehicles = car ∷ []; dimensions = dimension ∷ [] }

dimension_is : IsDimension three dimension
dimension_is = record {
  length_of_name = record { at_least = omega arith; at_most = omega arith };
  number_of_evaluators = record { at_least = omega arith; at_most = omega arith };
  each_evaluator = of_one (IsEvaluator three) _ (record { matrix_in_range = omega arith; values_of_all = inl refl; values_in_range = of_none _ });
  evaluator_of_each_vehicle = refl;
  vehicle_evaluators_in_range = of_one (λ k. k < 1) 0 (omega arith);
  slack_max_in_range = one_in_range _ _ _ refl;
  capacity_of_each_vehicle = refl;
  capacities_in_range = in_range (pos 0) horizon (horizon ∷ []) refl;
  visit_time_of_each_node = refl;
  visit_times_in_range = in_range (pos 0) greatest_value (pos 0 ∷ pos 0 ∷ pos 0 ∷ []) refl;
  rows_of_visits = record { number_of_rows = omega arith; each_key_is_visit = of_none _; no_key_twice = refl; each_row = of_none _ };
  rows_of_starts = record { number_of_rows = omega arith; each_key_is_vehicle = of_none _; no_key_twice = refl; each_row = of_none _ };
  rows_of_ends = record { number_of_rows = omega arith; each_key_is_vehicle = of_none _; no_key_twice = refl; each_row = of_none _ };
  number_of_breaks = omega arith;
  each_break_of_vehicle = of_none _;
  breaks_of_no_vehicle_twice = refl;
  each_breaks = of_none _;
  span_cost_of_each_vehicle = refl;
  span_costs_in_range = in_range (pos 0) greatest_coefficient (pos 0 ∷ []) refl;
  global_span_cost_in_range = one_in_range _ _ _ refl;
}

well_formed : IsWellFormed three
well_formed = record {
  number_of_nodes = (omega arith, omega arith);
  number_of_matrices = record { at_least = omega arith; at_most = omega arith };
  each_matrix = of_one (IsMatrix 3) _ (record { square = refl; entries_in_range = in_range least_value greatest_cost (matrix_at two_cars 0).entries refl });
  search_in_range = default_is_search;
  number_of_vehicles = record { at_least = omega arith; at_most = omega arith };
  each_vehicle = of_one (IsVehicle three) car
      (record { start_in_range = omega arith; end_in_range = omega arith; costs_in_range = omega arith; fixed_in_range = one_in_range _ _ _ refl });
  number_of_dimensions = omega arith;
  each_dimension = of_one (IsDimension three) dimension dimension_is;
  no_name_twice = refl;
  number_of_groups = omega arith;
  each_group = of_none _;
  no_node_in_groups_twice = refl;
  number_of_pairs = omega arith;
  each_pair = of_none _;
  no_node_in_pairs_twice = refl;
  number_of_allowed = omega arith;
  each_allowed = of_none _;
  no_node_allowed_twice = refl;
  costs_not_negative = costs;
  entries_not_large = entries_small;
  transits_forward = forward;
  can_save = refl;
}
  where
    costs : (v : ℕ) → v < 1 → has_negative_cost three v ≡ false
    costs zero low = refl
    costs (suc v) low = absurd (omega (arith, low))

    entries_small : (d k : ℕ) → d < 1 → k < length (dimension_at three d).evaluators → has_large_entry three d k ≡ false
    entries_small zero zero low some = refl
    entries_small zero (suc k) low some = absurd (omega (arith, some))
    entries_small (suc d) k low some = absurd (omega (arith, low))

    forward : (d : ℕ) → d < 1 → goes_back three d ≡ false
    forward zero low = refl
    forward (suc d) low = absurd (omega (arith, low))

no_time : (i : ℕ) → number_at dimension.visit i ≡ pos 0
no_time zero = refl
no_time (suc zero) = refl
no_time (suc (suc zero)) = refl
no_time (suc (suc (suc i))) = refl

five : (i j : ℕ) → i < 3 → j < 3 → i ≢ j → transit three 0 0 i j ≡ pos 5
five zero zero low there other = absurd (other refl)
five zero (suc zero) low there other = refl
five zero (suc (suc zero)) low there other = refl
five zero (suc (suc (suc j))) low there other = absurd (omega (arith, there))
five (suc zero) zero low there other = refl
five (suc zero) (suc zero) low there other = absurd (other refl)
five (suc zero) (suc (suc zero)) low there other = refl
five (suc zero) (suc (suc (suc j))) low there other = absurd (omega (arith, there))
five (suc (suc zero)) zero low there other = refl
five (suc (suc zero)) (suc zero) low there other = refl
five (suc (suc zero)) (suc (suc zero)) low there other = absurd (other refl)
five (suc (suc zero)) (suc (suc (suc j))) low there other = absurd (omega (arith, there))
five (suc (suc (suc i))) j low there other = absurd (omega (arith, low))

pub is_even : IsEven three
is_even = record {
  well_formed = well_formed;
  vehicle = omega arith;
  start = refl;
  «end» = refl;
  some_dimension = omega arith;
  nothing_else = refl;
  visits = no_time;
  transits = five;
}
