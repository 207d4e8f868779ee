-- The place of each node in lists.
use Rattle.std.specs.Prelude.{◌≡◌, ◌≢◌, ◌⊎◌, ℕ, ◌<◌, ◌≤◌, List, [], length, slice_index, slice_index_or, IsTrue, All}
use Rattle.std.specs.Prelude.{Option, Some, None}
use Rattle.vr_model.specs.routes.Routes.{route, is_active}
use Rattle.vr_model.specs.moves.Moves.{with_route}
use Rattle.vr_routes.specs.declared.seats.Seat.{Seat}

-- lists, and how many nodes may be in them
pub record Seated : Type 0 where
  pub lists : List (List ℕ)
  pub nodes : ℕ

-- a node is at place k of the list of v
pub record IsSeat (lists : List (List ℕ)) (node v k : ℕ) : Type 0 where
  pub vehicle : v < length lists
  pub place : k < length (route lists v)
  pub found : slice_index (route lists v) k ≡ node

-- what is kept of a node, none of a node that is not kept
abbrev pub seat_at : List (Option Seat) → ℕ → Option Seat
seat_at seats node = slice_index_or seats node None

-- each node of the lists has its seat, and each seat its node; lists and nodes are few
pub record IsSeated (lists : List (List ℕ)) (seats : List (Option Seat)) : Type 0 where
  pub told : (v k : ℕ) → v < length lists → k < length (route lists v)
      → seat_at seats (slice_index (route lists v) k) ≡ Some (record { vehicle = v; place = k })
  pub there : (node : ℕ) (seat : Seat) → seat_at seats node ≡ Some seat → IsSeat lists node seat.vehicle seat.place
  pub few_vehicles : length lists ≤ 100
  pub few_nodes : length seats ≤ 1000

-- no node is at two places
abbrev pub IsOnce : List (List ℕ) → Type 0
IsOnce lists = (node v k w j : ℕ) → IsSeat lists node v k → IsSeat lists node w j → (v ≡ w) × (k ≡ j)

-- each node of the lists is below n
abbrev pub HaveNodes : ℕ → List (List ℕ) → Type 0
HaveNodes n lists = (node : ℕ) → IsTrue (is_active lists node) → node < n

-- a vehicle may get a list: its nodes are among those that may be in lists, and with it none comes twice
pub record MayHave (seated : Seated) (v : ℕ) (list : List ℕ) : Type 0 where
  pub vehicle : v < length seated.lists
  pub nodes : All (λ node. node < seated.nodes) list
  pub once : IsOnce (with_route seated.lists v list)

-- two vehicles may get a list each
pub record MayHaveTwo (seated : Seated) (v : ℕ) (list : List ℕ) (w : ℕ) (more : List ℕ) : Type 0 where
  pub vehicle : v < length seated.lists
  pub other : w < length seated.lists
  pub apart : v ≢ w
  pub nodes : All (λ node. node < seated.nodes) list
  pub others : All (λ node. node < seated.nodes) more
  pub once : IsOnce (with_route (with_route seated.lists v list) w more)

-- the vehicles may get these lists: there are as many, and in them are nodes that may be, none of them twice
pub record MayHaveAll (seated : Seated) (lists : List (List ℕ)) : Type 0 where
  pub many : length seated.lists ≡ length lists
  pub nodes : HaveNodes seated.nodes lists
  pub once : IsOnce lists

-- a list is the whole one, or empty
abbrev pub IsSameOrEmpty : List ℕ → List ℕ → Type 0
IsSameOrEmpty whole list = (list ≡ whole) ⊎ (list ≡ [])
