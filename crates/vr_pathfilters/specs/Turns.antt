-- Which pairs come in turn, by how many pickups and deliveries come before their nodes.
use Rattle.std.specs.Prelude.{◌≡◌, ℕ, ◌+◌, Bool, true, ◌==◌, List, take, count_by, IsTrue}
use Rattle.std.specs.List.{list_all, list_any}
use Rattle.vr_model.specs.tables.Tables.{vehicle_at}
use Rattle.vr_model.specs.tables.WellFormed.{IsWellFormed}
use Rattle.vr_model.specs.routes.Routes.{is_distinct}
use Rattle.vr_model.specs.routes.Rules.{keeps_policy, pairs_in, place_of, serves_pair}
use Rattle.vr_model.specs.declared.records.Model.{Model}
use Rattle.vr_model.specs.declared.records.Pair.{Pair}
use Rattle.vr_model.specs.declared.records.Policy.{Policy}
use Rattle.vr_model.specs.declared.records.Policy.TheVariants.{Any, Lifo, Fifo}

-- a node is the pickup of a pair
abbrev pub is_pickup : Model → ℕ → Bool
is_pickup model node = list_any (λ pair. pair.pickup == node) model.pairs

-- a node is the delivery of a pair
abbrev pub is_delivery : Model → ℕ → Bool
is_delivery model node = list_any (λ pair. pair.delivery == node) model.pairs

-- how many of some nodes are pickups
abbrev pub pickups_in : Model → List ℕ → ℕ
pickups_in model nodes = count_by (is_pickup model) nodes

-- how many of some nodes are deliveries
abbrev pub deliveries_in : Model → List ℕ → ℕ
deliveries_in model nodes = count_by (is_delivery model) nodes

-- the pickup and the delivery at two places of a list come in turn. Last in first out, as many are picked up as are
-- delivered between them. First in first out, as many are picked up before the one as are delivered before the other.
abbrev pub are_in_turn : Model → Policy → List ℕ → ℕ → ℕ → Bool
are_in_turn model Any list pickup delivery = true
are_in_turn model Lifo list pickup delivery =
    (pickups_in model (take (pickup + 1) list) + deliveries_in model (take delivery list))
    == (pickups_in model (take delivery list) + deliveries_in model (take (pickup + 1) list))
are_in_turn model Fifo list pickup delivery =
    pickups_in model (take pickup list) == deliveries_in model (take delivery list)

-- a pair of a list comes in turn
abbrev pub is_in_turn : Model → Policy → List ℕ → Pair → Bool
is_in_turn model policy list pair =
    are_in_turn model policy list (place_of list pair.pickup) (place_of list pair.delivery)

-- each pair of a list comes in turn
abbrev pub takes_turns : Model → Policy → List ℕ → Bool
takes_turns model policy list = list_all (is_in_turn model policy list) (pairs_in model list)

-- a list of distinct nodes that serves each pair keeps the policy of a vehicle exactly if its pairs come in turn
abbrev pub TurnsArePolicies : Type 0
TurnsArePolicies = (model : Model) (v : ℕ) (list : List ℕ) → IsWellFormed model → IsTrue (is_distinct list)
    → IsTrue (list_all (serves_pair list) model.pairs)
    → keeps_policy model v list ≡ takes_turns model (vehicle_at model v).policy list
