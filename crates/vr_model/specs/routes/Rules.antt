-- Which lists are open, and which are valid.
use Rattle.std.specs.Prelude.{ℕ, Bool, true, not, ◌&&◌, ◌||◌, ◌==◌, nat_lt, nat_le, List, length, filter, find}
use Rattle.std.specs.Prelude.{count_by, Option, Some, None, ℤ}
use Rattle.std.specs.List.{list_all, list_any, position_or_len}
use Rattle.vr_model.specs.tables.Numbers.{below}
use Rattle.vr_model.specs.tables.Tables.{vehicle_at, visits}
use Rattle.vr_model.specs.routes.Routes.{route, holds, are_lists, vehicles, is_empty, is_active}
use Rattle.vr_model.specs.moves.Moves.{comes_before}
use Rattle.vr_model.specs.schedules.Lines.{line}
use Rattle.vr_model.specs.schedules.Choices.{is_feasible}
use Rattle.vr_model.specs.declared.records.Model.{Model}
use Rattle.vr_model.specs.declared.records.Pair.{Pair}
use Rattle.vr_model.specs.declared.records.Group.{Group}
use Rattle.vr_model.specs.declared.records.Allowed.{Allowed}
use Rattle.vr_model.specs.declared.records.Policy.{Policy}
use Rattle.vr_model.specs.declared.records.Policy.TheVariants.{Any, Lifo, Fifo}

-- if a node of the pair is in the list, both are, the pickup first
abbrev pub serves_pair : List ℕ → Pair → Bool
serves_pair list pair =
    not (holds list pair.pickup || holds list pair.delivery) || comes_before list pair.pickup pair.delivery

-- the place of a node in a list, or the length of the list if it is absent
abbrev pub place_of : List ℕ → ℕ → ℕ
place_of list node = position_or_len (λ x. x == node) list

-- What a policy asks of the pairs x and y of a list. It may ask nothing more. Last in, first out: a pair whose pickup
-- lies inside another ends inside it. First in, first out: the deliveries come in the order of the pickups.
abbrev pub policy_allows : Policy → List ℕ → Pair → Pair → Bool
policy_allows Any list x y = true
policy_allows Lifo list x y =
    not (nat_lt (place_of list x.pickup) (place_of list y.pickup)
    && nat_lt (place_of list y.pickup) (place_of list x.delivery))
    || nat_lt (place_of list y.delivery) (place_of list x.delivery)
policy_allows Fifo list x y =
    not (nat_lt (place_of list x.pickup) (place_of list y.pickup))
    || nat_lt (place_of list x.delivery) (place_of list y.delivery)

-- the pairs with their pickup in the list
abbrev pub pairs_in : Model → List ℕ → List Pair
pairs_in model list = filter (λ pair. holds list pair.pickup) model.pairs

-- the policy holds of every two pairs of the list
abbrev pub keeps_policy : Model → ℕ → List ℕ → Bool
keeps_policy model v list =
    let pairs = pairs_in model list in
    list_all (λ x. list_all (λ y. policy_allows (vehicle_at model v).policy list x y) pairs) pairs

-- the row of a visit allows vehicle v; without a row each vehicle is allowed
abbrev pub row_allows_vehicle : Option Allowed → ℕ → Bool
row_allows_vehicle None v = true
row_allows_vehicle (Some row) v = holds row.vehicles v

-- vehicle v may visit the node
abbrev pub allows_vehicle : Model → ℕ → ℕ → Bool
allows_vehicle model v node = row_allows_vehicle (find (λ row. row.node == node) model.allowed) v

-- The list of vehicle v is empty, or it keeps all rules on one route. Its line in each dimension is feasible. Each pair
-- with a node in it is served in order, and the policy of the vehicle holds. Each visit allows the vehicle.
abbrev pub is_route_open : Model → ℕ → List ℕ → Bool
is_route_open model v list = is_empty list
    || (list_all (λ d. is_feasible (line model d v list)) (below (length model.dimensions))
    && (list_all (serves_pair list) model.pairs
    && (keeps_policy model v list
    && list_all (allows_vehicle model v) list)))

-- how many nodes of a group are active
abbrev pub active_in : List (List ℕ) → Group → ℕ
active_in lists group = count_by (is_active lists) group.nodes

-- a group has no more active nodes than it may have
abbrev pub fits_group : List (List ℕ) → Group → Bool
fits_group lists group = nat_le (active_in lists group) group.max

-- the list of each vehicle is open, and no group has more active nodes than it may have
unfoldable pub is_open : Model → List (List ℕ) → Bool
is_open model lists = list_all (λ v. is_route_open model v (route lists v)) (vehicles lists)
    && list_all (fits_group lists) model.groups

-- the node is in a group
abbrev pub is_grouped : Model → ℕ → Bool
is_grouped model node = list_any (λ group. holds group.nodes node) model.groups

-- without a penalty a group needs as many active nodes as it may have
abbrev pub has_enough : Option ℤ → ℕ → ℕ → Bool
has_enough None max active = active == max
has_enough (Some penalty) max active = true

-- each visit in no group is active
abbrev pub has_required : Model → List (List ℕ) → Bool
has_required model lists = list_all (λ node. is_grouped model node || is_active lists node) (visits model)

-- The lists are lists of the model, and they are open. Each visit in no group is active. Each group without a penalty
-- has exactly as many active nodes as it may have.
unfoldable pub is_valid : Model → List (List ℕ) → Bool
is_valid model lists = are_lists model lists
    && (is_open model lists
    && (has_required model lists
    && list_all (λ group. has_enough group.penalty group.max (active_in lists group)) model.groups))
