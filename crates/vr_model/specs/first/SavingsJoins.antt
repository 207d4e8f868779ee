-- The first solution by savings (Clarke, Wright). Each item that may begins as a route of its own; then the join that
-- saves most is made, again and again. All vehicles are alike, so routes are judged as lists of vehicle 0.
use Rattle.std.specs.Prelude.{ℕ, zero, suc, Bool, true, false, cond, not, ◌&&◌, ◌||◌, ◌==◌, nat_lt, List, [], ◌∷◌, ◌++◌}
use Rattle.std.specs.Prelude.{map, length, filter, take, ℤ, pos, ◌+ℤ◌, ◌-ℤ◌, neg_ℤ, int_lt, Some, None}
use Rattle.std.specs.List.{list_all}
use Rattle.vr_model.specs.tables.Numbers.{from_to, each}
use Rattle.vr_model.specs.tables.Tables.{vehicle_at, arc_cost, visits}
use Rattle.vr_model.specs.routes.Rules.{is_route_open, fits_group}
use Rattle.vr_model.specs.first.Choosing.{least_by}
use Rattle.vr_model.specs.first.Items.{items, first_node, last_node, class, empty_lists}
use Rattle.vr_model.specs.declared.records.Model.{Model}

-- the items in order of class and number
abbrev pub items_by_class : Model → List (List ℕ)
items_by_class model = each (from_to 0 3) λ c. filter (λ item. class model item == c) (items model)

-- the item may become a route beside the routes so far: it is open, and no group gets too many nodes
abbrev pub may_begin : Model → List (List ℕ) → List ℕ → Bool
may_begin model routes item = is_route_open model 0 item && list_all (fits_group (routes ++ item ∷ [])) model.groups

-- Each item in turn becomes a route, if it may, after the routes so far. The others are left out.
abbrev pub single_routes : Model → List (List ℕ) → List (List ℕ) → List (List ℕ)
single_routes model routes [] = routes
single_routes model routes (item ∷ rest) =
    single_routes model (cond (may_begin model routes item) (routes ++ item ∷ []) routes) rest

-- two routes to be joined, one after the other
pub record Join : Type 0 where
  pub front : List ℕ
  pub back : List ℕ

-- the joined route
abbrev pub joined_route : Join → List ℕ
joined_route join = join.front ++ join.back

-- what a join saves: the arcs to the end and from the start, less the arc between the two routes
abbrev pub saving : Model → Join → ℤ
saving model join =
    (arc_cost model 0 (last_node join.front) (vehicle_at model 0).end
    +ℤ arc_cost model 0 (vehicle_at model 0).start (first_node join.back))
    -ℤ arc_cost model 0 (last_node join.front) (first_node join.back)

-- two distinct routes whose joined route is open
abbrev pub may_join : Model → Join → Bool
may_join model join = not (first_node join.front == first_node join.back) && is_route_open model 0 (joined_route join)

-- the joins that may be made
abbrev pub joins : Model → List (List ℕ) → List Join
joins model routes =
    filter (may_join model) (each routes λ front. map (λ back. record { front = front; back = back }) routes)

-- the greatest saving comes first, then the least last node of the front, then the least first node of the back
abbrev pub join_key : Model → Join → List ℤ
join_key model join = neg_ℤ (saving model join) ∷ pos (last_node join.front) ∷ pos (first_node join.back) ∷ []

-- the route is one of the two of a join
abbrev pub is_part_of : Join → List ℕ → Bool
is_part_of join list = (first_node list == first_node join.front) || (first_node list == first_node join.back)

-- the routes after a join
abbrev pub after_join : List (List ℕ) → Join → List (List ℕ)
after_join routes join = joined_route join ∷ filter (λ list. not (is_part_of join list)) routes

-- the best join saves, or there are more routes than vehicles
abbrev pub is_wanted : Model → List (List ℕ) → Join → Bool
is_wanted model routes join = int_lt (pos 0) (saving model join) || nat_lt (length model.vehicles) (length routes)

-- routes are joined as long as the best join is wanted, up to a given number of times
abbrev pub merged : Model → ℕ → List (List ℕ) → List (List ℕ)
merged model zero routes = routes
merged model (suc more) routes = elim (least_by (join_key model) (joins model routes)) [
  | None ↦ routes
  | Some join ↦ elim (is_wanted model routes join) [
    | true ↦ merged model more (after_join routes join)
    | false ↦ routes
  ]
]

-- the routes by least class, and then by first node
abbrev pub ranked : Model → List (List ℕ) → List (List ℕ)
ranked model routes =
    each (from_to 0 3) λ c. each (visits model) λ node. filter (λ list. (class model list == c)
    && (first_node list == node)) routes

-- The first routes become the lists of the vehicles in turn. Each join leaves one route less, so no more joins can be
-- made than there are routes.
abbrev pub savings : Model → List (List ℕ)
savings model = let singles = single_routes model [] (items_by_class model) in
    take (length model.vehicles) (ranked model (merged model (length singles) singles) ++ empty_lists model)
