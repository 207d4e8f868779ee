-- The sums of all vehicles with their lists.
use Rattle.std.specs.Prelude.{◌≡◌, ◌≢◌, ℕ, ◌<◌, ◌*◌, ◌^◌, true, false, List, [], length, pos, slice_index_or}
use Rattle.vr_model.specs.tables.WellFormed.{IsIn}
use Rattle.vr_model.specs.tables.Tables.{vehicle_at}
use Rattle.vr_model.specs.routes.Routes.{route}
use Rattle.vr_model.specs.search.GuidedSearches.{Penalties}
use Rattle.vr_model.specs.declared.records.Model.{Model}
use Rattle.vr_guided.specs.Sums.{AddAtMost, AreArcSums, weight_by}
use Rattle.vr_balance.specs.Sums.{line_nodes}
use Rattle.vr_guided.specs.declared.route_sums.RouteSums.{RouteSums}

-- the sums of vehicle v with a list, forward and back. With them the most that one arc of it adds, and that two add
-- which follow one another
pub record AreRouteSums (model : Model) (p : Penalties) (v : ℕ) (list : List ℕ) (both : RouteSums) : Type 0 where
  pub forward : AreArcSums (weight_by model p false) v (vehicle_at model v).start (line_nodes model v list) both.forward
  pub back : AreArcSums (weight_by model p true) v (vehicle_at model v).start (line_nodes model v list) both.back
  pub gap : AddAtMost both.forward 1 both.most_at_gap
  pub gap_in_range : IsIn (pos 0) (pos (1001 * 2 ^ 70)) both.most_at_gap
  pub place : AddAtMost both.forward 2 both.most_at_place
  pub place_in_range : IsIn (pos 0) (pos (1001 * 2 ^ 70)) both.most_at_place

-- no sums
abbrev pub no_route_sums : RouteSums
no_route_sums = record { forward = []; back = []; most_at_gap = pos 0; most_at_place = pos 0 }

-- the sums of each vehicle with its list
pub record AreAllRouteSums (model : Model) (p : Penalties) (lists : List (List ℕ)) (all : List RouteSums) : Type 0 where
  pub many : length all ≡ length model.vehicles
  pub known : length lists ≡ length model.vehicles
  pub each : (v : ℕ) → v < length model.vehicles
      → AreRouteSums model p v (route lists v) (slice_index_or all v no_route_sums)

-- the sums of vehicle v became those of its list, if there is such a vehicle, and no others were changed
pub record IsWritten (model : Model) (p : Penalties) (lists : List (List ℕ)) (v : ℕ) (before after : List RouteSums) :
    Type 0 where
  pub long : length after ≡ length before
  pub here : v < length before → AreRouteSums model p v (route lists v) (slice_index_or after v no_route_sums)
  pub others : (u : ℕ) → u ≢ v → slice_index_or after u no_route_sums ≡ slice_index_or before u no_route_sums
