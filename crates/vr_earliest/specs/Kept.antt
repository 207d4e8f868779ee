-- What is kept of committed lists.
use Rattle.std.specs.Prelude.{◌≡◌, ◌<◌, ◌⊎◌, ℕ, IsTrue, List, length, slice_index_or, pos}
use Rattle.vr_model.specs.tables.Numbers.{number_at}
use Rattle.vr_model.specs.tables.Tables.{dimension_at}
use Rattle.vr_model.specs.routes.Routes.{route}
use Rattle.vr_model.specs.routes.Rules.{is_valid}
use Rattle.vr_model.specs.declared.records.Dimension.{Dimension}
use Rattle.vr_model.specs.declared.records.Model.{Model}
use Rattle.vr_earliest.specs.declared.kept_ways.KeptWays.{KeptWays as KeptPlaces}
use Rattle.vr_earliest.specs.declared.ways.Rest.{Rest}
use Rattle.vr_earliest.specs.declared.ways.Way.{Way}
use Rattle.vr_earliest.specs.Entries.{KeepsWays}
use Rattle.vr_earliest.specs.Rests.{at_end, rest_with_visit}
use Rattle.vr_earliest.specs.Ways.{way_from_start, on_to_visit}

-- what is kept of the list of a vehicle
abbrev pub KeptWays : Type 0
KeptWays = KeptPlaces Way Rest

-- what is kept has the ways along the first nodes of a list of vehicle v, and what is left after each of them
abbrev pub HasWays : Model → ℕ → ℕ → List ℕ → KeptWays → Type 0
HasWays model d v list kept =
    KeepsWays (way_from_start model d v) (on_to_visit model d v) (at_end model d v) (rest_with_visit model d v) list
    kept

-- nothing is paid for spans in a dimension
pub record IsUnpaid (dimension : Dimension) : Type 0 where
  pub spans : (v : ℕ) → v < length dimension.span_costs → number_at dimension.span_costs v ≡ pos 0
  pub global : dimension.global_span_cost ≡ pos 0

-- what is kept in dimension d has those of these lists: of all of them if anything is paid for spans, and else of none
pub record HaveWays (model : Model) (d : ℕ) (lists : List (List ℕ)) (kept : List KeptWays) : Type 0 where
  pub many : (length kept ≡ length lists) ⊎ IsUnpaid (dimension_at model d)
  pub none : IsUnpaid (dimension_at model d) → length kept ≡ 0
  pub each : (v : ℕ) (other : KeptWays) → v < length kept
      → HasWays model d v (route lists v) (slice_index_or kept v other)

-- the same in each dimension
pub record HaveAllWays (model : Model) (lists : List (List ℕ)) (kept : List (List KeptWays)) : Type 0 where
  pub many : length kept ≡ length model.dimensions
  pub each : (d : ℕ) (other : List KeptWays) → d < length kept → HaveWays model d lists (slice_index_or kept d other)

-- what contracts see of how early vehicles can end lists: the model, and what is kept in each dimension
pub record KeptEarly : Type 0 where
  pub model : Model
  pub kept : List (List KeptWays)

-- what is kept is of these lists, which are valid
pub record StandsEarliest (early : KeptEarly) (lists : List (List ℕ)) : Type 0 where
  pub valid : IsTrue (is_valid early.model lists)
  pub ways : HaveAllWays early.model lists early.kept
