-- Items that are put back, as code does it.
use Rattle.std.specs.Prelude.{◌≡◌, ℕ, ◌<◌, ◌≤◌, Bool, true, false, cond, not, ◌==◌, List, length, sum_by, IsTrue}
use Rattle.std.specs.List.{Contains}
use Rattle.vr_model.specs.routes.Routes.{is_active, is_empty, route}
use Rattle.vr_model.specs.first.Items.{first_node, items}
use Rattle.vr_model.specs.first.CheapestInsertion.{inserted}
use Rattle.vr_model.specs.declared.records.Model.{Model}
use Rattle.vr_rules.specs.declared.items.Item.{Item}
use Rattle.vr_rules.specs.Placing.{fits_beside, item_nodes, AreBuilt, IsItem}
use Rattle.vr_ruin.specs.declared.placing.Offer.{Offer}
use Rattle.vr_ruin.specs.declared.ranking.Priced.{Priced}
use Rattle.vr_ruin.specs.Offers.{price_of}
use Rattle.vr_ruin.specs.Placings.{insertion_of, AreWithin}

-- an offer may be made: its vehicle is there, and its places, and the lists are open after it
pub record MayBeMade (model : Model) (lists : List (List ℕ)) (offer : Offer) : Type 0 where
  pub vehicle : offer.vehicle < length lists
  pub within : AreWithin (route lists offer.vehicle) offer.placing
  pub built : AreBuilt model (inserted lists (insertion_of offer))

-- offers that may be made, each with its price
pub record IsRanked (model : Model) (lists : List (List ℕ)) (priced : Priced) : Type 0 where
  pub may : MayBeMade model lists priced.offer
  pub price : priced.price ≡ price_of model lists (insertion_of priced.offer)

-- an item may be put back: it is in no list, and no group would get too many nodes from it
pub record MayGoBack (model : Model) (lists : List (List ℕ)) (item : Item) : Type 0 where
  pub is_item : IsItem model item
  pub inactive : is_active lists (first_node (item_nodes item)) ≡ false
  pub fits : IsTrue (fits_beside model lists (item_nodes item))

-- a vehicle is asked, if the used ones are, or those with an empty list
abbrev pub is_asked : List (List ℕ) → Bool → ℕ → Bool
is_asked lists are_used v = cond are_used (not (is_empty (route lists v))) (is_empty (route lists v))

-- 1 if a test passes, else 0
abbrev pub one : Bool → ℕ
one true = 1
one false = 0

-- how many items of a list have a number as their first node
abbrev pub firsts : ℕ → List (List ℕ) → ℕ
firsts n xs = sum_by (λ item. one (first_node item == n)) xs

-- items of a model that are in no list, each of them once
pub record AreInTurn (model : Model) (lists xs : List (List ℕ)) : Type 0 where
  pub among : (item : List ℕ) → Contains xs item → Contains (items model) item
  pub inactive : (item : List ℕ) → Contains xs item → is_active lists (first_node item) ≡ false
  pub once : (n : ℕ) → firsts n xs ≤ 1
