-- The tree of a generated model.
use Rattle.std.specs.Prelude.{ℕ, ◌+◌, ◌-◌, true, List, [], ◌∷◌, map, length, codes, replicate, slice_index_or}
use Rattle.serde_json.specs.Data.{Data, string, array, object, boolean, no_members, member}
use Rattle.serde_json.specs.View.{items_of}
use Rattle.vr_model.specs.tables.Numbers.{below}
use Rattle.vr_json.specs.Trees.{count, listed, one}
use Rattle.vr_gen.specs.Draws.{drawn_sites, customers}
use Rattle.vr_gen.specs.declared.draws.Site.{Site}
use Rattle.vr_gen.specs.declared.draws.Customer.{Customer}

-- how far two numbers are apart
abbrev pub apart : ℕ → ℕ → ℕ
apart m n = (m - n) + (n - m)

abbrev pub distance_entry : Site → Site → Data
distance_entry a b = count (apart a.x b.x + apart a.y b.y)

-- the distances from a site, and the matrix of them
abbrev pub row : List Site → Site → Data
row sites a = listed (distance_entry a) sites

abbrev pub matrix : List Site → Data
matrix sites = listed (row sites) sites

-- 0 for node 0, and a number for each other node
abbrev pub values : List ℕ → Data
values others = listed count (0 ∷ others)

-- a vehicle from node 0 to node 0
abbrev pub vehicle : Data
vehicle = object (member (codes "end") (count 0) (member (codes "start") (count 0) no_members))

-- a break of 600 that begins in 6000..=9000
abbrev pub pause : Data
pause = object
    (member (codes "duration") (count 600)
    (member (codes "from") (count 6000)
    (member (codes "to") (count 9000) no_members)))

-- the break of a vehicle
abbrev pub rest : ℕ → Data
rest v = object (member (codes "breaks") (one pause) (member (codes "vehicle") (count v) no_members))

-- the window of node k + 1
abbrev pub window : List Customer → ℕ → Data
window customers k =
    let lo = (slice_index_or customers k (record { lo = 0; demand = 0 })).lo in
    object (member (codes "node") (count (k + 1))
    (member (codes "window") (listed count (lo ∷ ((lo + 4000) ∷ []))) no_members))

-- how long a visit of each node but 0 takes
abbrev pub services : List ℕ
services = replicate 60 30

-- how long it takes from node to node: the distance and the visit of the first one
abbrev pub transit : List ℕ → Data
transit services = object (member (codes "matrix") (count 0) (member (codes "values") (values services) no_members))

-- the dimension of times
unfoldable pub times : List Customer → Data
times customers = object
    (member (codes "breaks") (listed rest (below 6))
    (member (codes "capacity") (count 20000)
    (member (codes "evaluators") (one (transit services))
    (member (codes "name") (string (codes "time"))
    (member (codes "nodes") (listed (window customers) (below (length customers)))
    (member (codes "slack_max") (count 20000)
    (member (codes "visit") (values services) no_members)))))))

abbrev pub demand_of : Customer → ℕ
demand_of customer = customer.demand

-- the dimension of loads
unfoldable pub loads : List Customer → Data
loads customers = object
    (member (codes "capacity") (count 60)
    (member (codes "evaluators") (one (object (member (codes "values") (values (map demand_of customers)) no_members)))
    (member (codes "fix_start") (boolean true)
    (member (codes "name") (string (codes "load"))
    (member (codes "slack_max") (count 0) no_members)))))

-- node k + 1 may be left out at a price
abbrev pub group : ℕ → Data
group k = object
    (member (codes "nodes") (listed count ((k + 1) ∷ []))
    (member (codes "penalty") (count 10000) no_members))

-- what is asked of the search
unfoldable pub search_row : Data
search_row = object
    (member (codes "first") (string (codes "PARALLEL_CHEAPEST_INSERTION"))
    (member (codes "improve") (string (codes "GUIDED_LOCAL_SEARCH"))
    (member (codes "tries") (count 20000) no_members)))

-- both dimensions
abbrev pub dimensions : List Customer → Data
dimensions customers = array (items_of (times customers ∷ loads customers ∷ []))

-- the model of these sites and customers
unfoldable pub model_of : List Site → List Customer → Data
model_of sites customers = object
    (member (codes "dimensions") (dimensions customers)
    (member (codes "format") (count 1)
    (member (codes "groups") (listed group (below 60))
    (member (codes "matrices") (one (matrix sites))
    (member (codes "nodes") (count 61)
    (member (codes "search") search_row
    (member (codes "vehicles") (listed (λ v. vehicle) (below 6)) no_members)))))))

-- the model of a number
unfoldable pub generated : ℕ → Data
generated n = model_of (drawn_sites n).0 (customers n)
