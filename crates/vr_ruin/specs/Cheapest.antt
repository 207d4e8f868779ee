-- The first of offers in their order, as code finds it.
use Rattle.std.specs.Prelude.{◌≡◌, ℕ, cond, List, ℤ, pos, ◌-ℤ◌, Option, Some, None, IfSome, slice_get}
use Rattle.std.specs.Option.{option_map}
use Rattle.vr_model.specs.tables.Numbers.{is_lex_less}
use Rattle.vr_model.specs.tables.Tables.{vehicle_at}
use Rattle.vr_model.specs.routes.Routes.{is_empty, route}
use Rattle.vr_model.specs.first.CheapestInsertion.{Insertion}
use Rattle.vr_model.specs.declared.records.Model.{Model}
use Rattle.vr_ruin.specs.declared.placing.Offer.{Offer}
use Rattle.vr_ruin.specs.declared.ranking.Priced.{Priced}
use Rattle.vr_ruin.specs.Makings.{IsRanked}
use Rattle.vr_ruin.specs.Offers.{offer as offer_of}
use Rattle.vr_ruin.specs.Payments.{IsPrice}
use Rattle.vr_ruin.specs.Placings.{insertion_of, no_more_than}
use Rattle.vr_ruin.specs.Ranks.{rank_of}
use Rattle.vr_ruin.specs.Timeless.{AddsToArcs}

-- the first entry, if there is one
abbrev pub first_in : List Insertion → Option Insertion
first_in xs = slice_get xs 0

-- what the use of a vehicle costs beside lists: nothing if it is used already
abbrev pub fixed_beside : Model → List (List ℕ) → ℕ → ℤ
fixed_beside model lists v = cond (is_empty (route lists v)) (vehicle_at model v).fixed (pos 0)

-- what an offer of vehicle v adds at most if it does not come after the best one so far
abbrev pub limit_of : Model → List (List ℕ) → ℕ → Option Priced → Option ℤ
limit_of model lists v None = None
limit_of model lists v (Some best) = Some (best.price -ℤ fixed_beside model lists v)

-- the one of two offers that comes first
abbrev pub cheaper_of : Option Priced → Priced → Priced
cheaper_of None next = next
cheaper_of (Some best) next = cond (is_lex_less (rank_of best) (rank_of next)) best next

-- an offer that may be made, with its price, which is in range
pub record IsCheapest (model : Model) (lists : List (List ℕ)) (priced : Priced) : Type 0 where
  pub ranked : IsRanked model lists priced
  pub range : IsPrice priced.price

-- the offer of vehicle v for an item, if it adds no more than a limit
pub record IsOfferWithin (model : Model) (lists : List (List ℕ)) (item : List ℕ) (v : ℕ) (limit : Option ℤ)
    (offer : Option Offer) : Type 0 where
  pub best : Option Offer
  pub best_is : option_map insertion_of best ≡ offer_of model lists item v
  pub vehicle_is : IfSome best (λ offer. offer.vehicle ≡ v)
  pub adds : IfSome best (AddsToArcs model lists)
  pub kept : offer ≡ no_more_than limit best
