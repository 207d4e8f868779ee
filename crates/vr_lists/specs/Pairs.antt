-- The pairs of one list, by themselves and by the places of their nodes.
use Rattle.std.specs.Prelude.{ℕ, Bool, true, not, ◌&&◌, ◌||◌, nat_lt, List, map, filter}
use Rattle.std.specs.List.{list_all}
use Rattle.vr_model.specs.routes.Routes.{holds}
use Rattle.vr_model.specs.routes.Rules.{keeps_policy, place_of, serves_pair}
use Rattle.vr_model.specs.declared.records.Model.{Model}
use Rattle.vr_model.specs.declared.records.Pair.{Pair}
use Rattle.vr_model.specs.declared.records.Policy.{Policy}
use Rattle.vr_model.specs.declared.records.Policy.TheVariants.{Any, Lifo, Fifo}
use Rattle.vr_lists.specs.declared.pairs.Served.{Served}

-- each pair with a node in the list is served in order, and the policy of vehicle v holds of the pairs of the list
abbrev pub keeps_pairs : Model → ℕ → List ℕ → Bool
keeps_pairs model v list = list_all (serves_pair list) model.pairs && keeps_policy model v list

-- the places of the two nodes of a pair in a list
abbrev pub served_at : List ℕ → Pair → Served
served_at list pair = record { pickup = place_of list pair.pickup; delivery = place_of list pair.delivery }

-- the pairs of the list among these, by their places
abbrev pub served_in : List ℕ → List Pair → List Served
served_in list pairs = map (served_at list) (filter (λ pair. holds list pair.pickup) pairs)

-- what a policy asks of two pairs at their places
abbrev pub places_allow : Policy → Served → Served → Bool
places_allow Any x y = true
places_allow Lifo x y = not (nat_lt x.pickup y.pickup && nat_lt y.pickup x.delivery) || nat_lt y.delivery x.delivery
places_allow Fifo x y = not (nat_lt x.pickup y.pickup) || nat_lt x.delivery y.delivery

-- the policy holds of x beside each of the pairs
abbrev pub allows_beside : Policy → List Served → Served → Bool
allows_beside policy served x = list_all (places_allow policy x) served
