-- Models in which no schedule costs anything, and what prices are there.
use Rattle.std.specs.Prelude.{◌≡◌, ℕ, Bool, ◌&&◌, List, length, ℤ, pos, ◌-ℤ◌, Option, Some, None, IsTrue}
use Rattle.std.specs.List.{list_all}
use Rattle.std.specs.Ordering.{int_eq}
use Rattle.vr_model.specs.tables.Numbers.{below}
use Rattle.vr_model.specs.tables.Tables.{dimension_at}
use Rattle.vr_model.specs.routes.Routes.{route, route_cost}
use Rattle.vr_model.specs.declared.records.Model.{Model}
use Rattle.vr_model.specs.declared.records.Dimension.{Dimension}
use Rattle.vr_plan.specs.Paying.{is_free}
use Rattle.vr_ruin.specs.declared.carrying.Carrier.{Carrier}
use Rattle.vr_ruin.specs.declared.placing.Offer.{Offer}
use Rattle.vr_ruin.specs.Carrying.{IsCarrier}
use Rattle.vr_ruin.specs.Columns.{AreColumns}
use Rattle.vr_ruin.specs.declared.columns.MatrixColumns.{MatrixColumns}
use Rattle.vr_ruin.specs.Offers.{paid_cost}
use Rattle.vr_ruin.specs.Payments.{IsCost}
use Rattle.vr_ruin.specs.Placings.{placed}

-- no schedules cost anything in a dimension: no global span, no span of a vehicle, and no soft upper bound
abbrev pub costs_no_time : Dimension → Bool
costs_no_time dimension = int_eq dimension.global_span_cost (pos 0) && is_free dimension

-- no schedules cost anything in any dimension
abbrev pub is_timeless : Model → Bool
is_timeless model = list_all (λ d. costs_no_time (dimension_at model d)) (below (length model.dimensions))

-- what lists cost without penalties, if it is known; if it is not, no schedules cost anything
abbrev pub IsPaid : Model → List (List ℕ) → Option ℤ → Type 0
IsPaid model lists None = IsTrue (is_timeless model)
IsPaid model lists (Some paid) = (paid ≡ paid_cost model lists) × IsCost paid

-- the increase of an offer is what it adds to the arc costs of its vehicle
abbrev pub AddsToArcs : Model → List (List ℕ) → Offer → Type 0
AddsToArcs model lists offer = let list = route lists offer.vehicle in
    offer.increase ≡ route_cost model offer.vehicle (placed list offer.placing) -ℤ route_cost model offer.vehicle list

-- what an asker keeps of a model: rules of it, which dimensions are loads, and the columns of its cost matrices. It
-- also keeps whether no schedules cost anything
pub record IsAsker (model rules : Model) (carrier : Carrier) (columns : List MatrixColumns) (timeless : Bool) :
    Type 0 where
  pub rules_are : rules ≡ model
  pub carrier_is : IsCarrier model carrier.loads.items carrier.plain carrier.free
  pub columns_are : AreColumns model columns
  pub timeless_is : timeless ≡ is_timeless model
