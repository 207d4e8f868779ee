-- The tables of a printed solution: which fields its tree has, and of which kinds.
use Rattle.std.specs.Prelude.{ℕ, List, [], ◌∷◌, ℤ, pos, negsuc, codes, Ok, ⊤}
use Rattle.vr_json.specs.Reading.{◌>>=◌, ReaderOf, required, known, array}
use Rattle.vr_json.specs.Kinds.{whole, below, text, choice}
use Rattle.vr_model.specs.declared.records.Parts.{Parts}
use Rattle.vr_printed.specs.declared.printed.Printed.{Printed}
use Rattle.vr_printed.specs.declared.printed.PrintedRoute.{PrintedRoute}
use Rattle.vr_printed.specs.declared.printed.PrintedPlan.{PrintedPlan}

-- any whole number of 64 bits
abbrev pub any_whole : ReaderOf ℤ
any_whole = whole (negsuc 9223372036854775807) (pos 9223372036854775807)

-- the greatest number of entries of an array, and of bytes of a string: memory has no room for more
abbrev pub any_length : ℕ
any_length = 18446744073709551615

-- an array of any length
abbrev pub all : {A : Type 0} → ReaderOf A → ReaderOf (List A)
all read = array 0 any_length (λ earlier. read)

-- one of some words
abbrev pub one_of : List (List ℕ × ⊤) → ReaderOf ⊤
one_of words = choice words

-- a plan of a route in a dimension
unfoldable pub plan : ReaderOf PrintedPlan
plan path d = do
  breaks ← required (codes "breaks") (all any_whole) path d
  cumuls ← required (codes "cumuls") (all any_whole) path d
  name ← required (codes "name") (text 0 any_length) path d
  slacks ← required (codes "slacks") (all any_whole) path d
  others ← known (codes "breaks" ∷ codes "cumuls" ∷ codes "name" ∷ codes "slacks" ∷ []) path d
  Ok (record { name = name; cumuls = cumuls; slacks = slacks; breaks = breaks })

-- a route, in a model of n nodes
unfoldable pub printed_route : ℕ → ReaderOf PrintedRoute
printed_route n path d = do
  plans ← required (codes "dimensions") (all plan) path d
  nodes ← required (codes "nodes") (all (below n)) path d
  vehicle ← required (codes "vehicle") any_whole path d
  others ← known (codes "dimensions" ∷ codes "nodes" ∷ codes "vehicle" ∷ []) path d
  Ok (record { vehicle = vehicle; nodes = nodes; plans = plans })

-- the names of the parts of a cost
abbrev pub parts_fields : List (List ℕ)
parts_fields = codes "arcs" ∷ codes "fixed" ∷ codes "global" ∷ codes "penalty" ∷ codes "soft" ∷ codes "span" ∷ []

-- the parts of a cost
unfoldable pub printed_parts : ReaderOf Parts
printed_parts path d = do
  arcs ← required (codes "arcs") any_whole path d
  fixed ← required (codes "fixed") any_whole path d
  global ← required (codes "global") any_whole path d
  penalty ← required (codes "penalty") any_whole path d
  soft ← required (codes "soft") any_whole path d
  span ← required (codes "span") any_whole path d
  others ← known parts_fields path d
  Ok (record { arcs = arcs; fixed = fixed; global = global; penalty = penalty; soft = soft; span = span })

-- the words of the fields `status` and `stop`
abbrev pub status_words : List (List ℕ × ⊤)
status_words = (codes "ROUTING_SUCCESS", tt) ∷ []

abbrev pub stop_words : List (List ℕ × ⊤)
stop_words = (codes "first", tt) ∷ (codes "optimum", tt) ∷ (codes "tries", tt) ∷ (codes "solutions", tt) ∷ []

-- the names of the fields of a solution
abbrev pub solution_fields : List (List ℕ)
solution_fields = codes "cost" ∷ codes "dropped" ∷ codes "first_cost" ∷ codes "parts" ∷ codes "routes"
    ∷ codes "solutions" ∷ codes "status" ∷ codes "stop" ∷ codes "tries" ∷ []

-- a solution, in a model of n nodes
unfoldable pub solution : ℕ → ReaderOf Printed
solution n path d = do
  cost ← required (codes "cost") any_whole path d
  dropped ← required (codes "dropped") (all (below n)) path d
  first_cost ← required (codes "first_cost") any_whole path d
  parts ← required (codes "parts") printed_parts path d
  routes ← required (codes "routes") (all (printed_route n)) path d
  solutions ← required (codes "solutions") any_whole path d
  status ← required (codes "status") (one_of status_words) path d
  stop ← required (codes "stop") (one_of stop_words) path d
  tries ← required (codes "tries") any_whole path d
  others ← known solution_fields path d
  Ok (record {
    cost = cost;
    dropped = dropped;
    first_cost = first_cost;
    parts = parts;
    routes = routes;
    solutions = solutions;
    tries = tries;
  })
