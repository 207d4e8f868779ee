-- The tables of groups, pairs and allowed vehicles.
use Rattle.std.specs.Prelude.{ℕ, ◌||◌, ◌==◌, List, [], ◌∷◌, length, Bool, pos, codes, Ok}
use Rattle.std.specs.List.{list_any}
use Rattle.vr_json.specs.declared.fault.Cause.TheVariants.{Repeated}
use Rattle.vr_json.specs.Paths.{name_path}
use Rattle.vr_json.specs.Reading.{◌>>=◌, ReaderOf, required, optional, maybe, known, array, refuse_if}
use Rattle.vr_json.specs.Kinds.{whole, below, count}
use Rattle.vr_model.specs.routes.Routes.{holds}
use Rattle.vr_model.specs.tables.Limits.{greatest_cost}
use Rattle.vr_model.specs.declared.records.Vehicle.{Vehicle}
use Rattle.vr_model.specs.declared.records.Group.{Group}
use Rattle.vr_model.specs.declared.records.Pair.{Pair}
use Rattle.vr_model.specs.declared.records.Allowed.{Allowed}
use Rattle.vr_read.specs.Vehicles.{visit}

-- a node of a group: a visit that is in no earlier group, and not earlier in this one
unfoldable pub group_node : ℕ → List Vehicle → List Group → List ℕ → ReaderOf ℕ
group_node n vehicles groups so_far path d = do
  node ← visit n vehicles path d
  fresh ← refuse_if (list_any (λ group. holds group.nodes node) groups || holds so_far node) Repeated path
  Ok node

-- a group
unfoldable pub group : ℕ → List Vehicle → List Group → ReaderOf Group
group n vehicles earlier path d = do
  nodes ← required (codes "nodes") (array 1 1000 (group_node n vehicles earlier)) path d
  penalty ← maybe (codes "penalty") (whole (pos 0) greatest_cost) path d
  most ← optional (codes "max") 1 (count 1 (length nodes)) path d
  others ← known (codes "nodes" ∷ codes "penalty" ∷ codes "max" ∷ []) path d
  Ok (record { nodes = nodes; penalty = penalty; max = most })

-- a node is in one of these pairs
abbrev pub is_paired : List Pair → ℕ → Bool
is_paired pairs node = list_any (λ pair. (pair.pickup == node) || (pair.delivery == node)) pairs

-- a pair: two visits, neither of which is in an earlier pair or earlier in this one
unfoldable pub pair : ℕ → List Vehicle → List Pair → ReaderOf Pair
pair n vehicles earlier path d = do
  pickup ← required (codes "pickup") (visit n vehicles) path d
  fresh_pickup ← refuse_if (is_paired earlier pickup) Repeated (name_path path (codes "pickup"))
  delivery ← required (codes "delivery") (visit n vehicles) path d
  fresh_delivery ← refuse_if (is_paired earlier delivery || (pickup == delivery)) Repeated
      (name_path path (codes "delivery"))
  others ← known (codes "pickup" ∷ codes "delivery" ∷ []) path d
  Ok (record { pickup = pickup; delivery = delivery })

-- one of this many vehicles, each once
unfoldable pub allowed_vehicle : ℕ → List ℕ → ReaderOf ℕ
allowed_vehicle vehicles so_far path d = do
  vehicle ← below vehicles path d
  fresh ← refuse_if (holds so_far vehicle) Repeated path
  Ok vehicle

-- the vehicles that a visit allows; no earlier row is of this visit
unfoldable pub allowed : ℕ → ℕ → List Vehicle → List Allowed → ReaderOf Allowed
allowed n fleet vehicles earlier path d = do
  node ← required (codes "node") (visit n vehicles) path d
  fresh ← refuse_if (list_any (λ row. row.node == node) earlier) Repeated (name_path path (codes "node"))
  permitted ← required (codes "vehicles") (array 1 fleet (allowed_vehicle fleet)) path d
  others ← known (codes "node" ∷ codes "vehicles" ∷ []) path d
  Ok (record { node = node; vehicles = permitted })
