-- The reading of an input: a model, the routes that are given with it, and what is asked of a refining search.
use Rattle.std.specs.Prelude.{ℕ, ℤ, ◌||◌, List, [], ◌∷◌, length, pos, nat_abs, codes, Result, Ok}
use Rattle.serde_json.specs.Data.{Data}
use Rattle.vr_json.specs.declared.fault.Cause.TheVariants.{Repeated}
use Rattle.vr_json.specs.declared.fault.Fault.{Fault}
use Rattle.vr_json.specs.Kinds.{count, whole}
use Rattle.vr_json.specs.Reading.{◌>>=◌, ReaderOf, required, optional, maybe, known, array, refuse_if}
use Rattle.vr_model.specs.routes.Routes.{holds, is_active}
use Rattle.vr_model.specs.declared.records.Model.{Model}
use Rattle.vr_model.specs.declared.records.Vehicle.{Vehicle}
use Rattle.vr_read.specs.Models.{read_model}
use Rattle.vr_read.specs.Vehicles.{visit}
use Rattle.vr_given.specs.declared.given.Given.{Given}
use Rattle.vr_given.specs.declared.wishes.Wish.{Wish}

-- a visit of a route: it is in no earlier route, and not earlier in this one
unfoldable pub route_visit : ℕ → List Vehicle → List (List ℕ) → List ℕ → ReaderOf ℕ
route_visit n vehicles routes so_far path d = do
  node ← visit n vehicles path d
  fresh ← refuse_if (is_active routes node || holds so_far node) Repeated path
  Ok node

-- the route of a vehicle, after these routes: at most 1000 visits
abbrev pub route_visits : ℕ → List Vehicle → List (List ℕ) → ReaderOf (List ℕ)
route_visits n vehicles routes path d = array 0 1000 (route_visit n vehicles routes) path d

-- the routes of a model: one for each vehicle
abbrev pub given_routes : Model → ReaderOf (List (List ℕ))
given_routes model path d =
    array (length model.vehicles) (length model.vehicles) (route_visits model.nodes model.vehicles) path d

-- a whole number from 0 to `most`
unfoldable pub natural : ℤ → ReaderOf ℕ
natural most path d = do
  number ← whole (pos 0) most path d
  Ok (nat_abs number)

-- What is asked of a refining search. The greatest seed is 2^63 - 1 and the greatest heat 2^40. If it is not said, the
-- seed is 0, about 10 visits are taken out in a step, and at most 10 of one route.
unfoldable pub wish : ReaderOf Wish
wish path d = do
  seed ← optional (codes "seed") 0 (natural (pos 9223372036854775807)) path d
  removed ← optional (codes "removed") 10 (count 1 100) path d
  longest ← optional (codes "string") 10 (count 1 100) path d
  heat ← maybe (codes "heat") (natural (pos 1099511627776)) path d
  others ← known (codes "seed" ∷ codes "removed" ∷ codes "string" ∷ codes "heat" ∷ []) path d
  Ok (record { seed = seed; removed = removed; string = longest; heat = heat })

-- what an object gives: its model, the routes and the wish beside it, and no other field
unfoldable pub given_at : ReaderOf Given
given_at path d = do
  model ← required (codes "model") read_model path d
  routes ← maybe (codes "routes") (given_routes model) path d
  wished ← maybe (codes "refine") wish path d
  others ← known (codes "model" ∷ codes "routes" ∷ codes "refine" ∷ []) path d
  Ok (record { model = model; routes = routes; wish = wished })

-- the same of a whole input
abbrev pub given_of : Data → Result Given Fault
given_of d = given_at [] d
