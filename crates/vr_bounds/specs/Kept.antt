-- What is kept of what it adds to put nodes into lists.
use Rattle.std.specs.Prelude.{◌≡◌, ℕ, ◌+◌, ◌-◌, ◌^◌, ◌<◌, ◌≤◌, min, List, [], length, slice_index_or, All, ℤ, pos, ◌≤ℤ◌}
use Rattle.vr_model.specs.declared.records.Model.{Model}
use Rattle.vr_model.specs.routes.Routes.{route}
use Rattle.vr_routes.specs.Tours.{Tours}
use Rattle.vr_arccosts.specs.Along.{KeptAlong, StandsAlong}
use Rattle.vr_arccosts.specs.Runs.{gap_added}
use Rattle.vr_bounds.specs.declared.puts.Bound.{Bound}
use Rattle.vr_bounds.specs.declared.puts.Puts.{Puts}

-- the age of the gaps that come after a number of the clock
abbrev pub next_age : ℕ → ℕ
next_age clock = min (clock + 1) (2 ^ 32 - 1)

-- nothing is known of a node
abbrev pub unknown : Bound
unknown = record { least = pos 0; stamp = 0; walked = 0 }

-- what is kept of a node
abbrev pub bound_at : Puts → ℕ → Bound
bound_at puts node = slice_index_or puts.bounds node unknown

-- the age of the gap at a place
abbrev pub age_at : Puts → ℕ → ℕ
age_at puts place = slice_index_or puts.ages place 0

-- each gap of a list of vehicle v adds this much or more if a node is put into it
abbrev pub IsUpTo : Model → ℕ → List ℕ → ℕ → ℤ → Type 0
IsUpTo model v list node least = (place : ℕ) → place ≤ length list → least ≤ℤ gap_added model v list node node place

-- each gap that is no younger than the stamp of a bound adds this much or more if a node is put into it
abbrev pub IsLeast : Model → ℕ → Puts → ℕ → Bound → Type 0
IsLeast model v puts node bound = (place : ℕ) → place ≤ length puts.row → age_at puts place ≤ bound.stamp
    → bound.least ≤ℤ gap_added model v puts.row node node place

-- what is kept of vehicle v and its list. Each gap has an age that the clock has shown, and each node a bound. The
-- stamp of a bound is older than the gaps that come next, and it holds if the list has nodes.
pub record ArePuts (model : Model) (v : ℕ) (puts : Puts) : Type 0 where
  pub nodes : All (λ node. node < model.nodes) puts.row
  pub few : length puts.row ≤ 1000
  pub gaps : length puts.ages ≡ length puts.row + 1
  pub all : length puts.bounds ≡ model.nodes
  pub born : (place : ℕ) → place ≤ length puts.row → 1 ≤ age_at puts place
  pub shown : (place : ℕ) → place ≤ length puts.row → age_at puts place ≤ puts.clock
  pub past : (node : ℕ) → node < model.nodes → (bound_at puts node).stamp < next_age puts.clock
  pub least : (node : ℕ) → node < model.nodes → 0 < length puts.row → IsLeast model v puts node (bound_at puts node)

-- a gap of the next list of vehicle v may have this age: bounds that are no older hold of it
pub record MayStand (model : Model) (v : ℕ) (puts : Puts) (next : List ℕ) (place age : ℕ) : Type 0 where
  pub born : 1 ≤ age
  pub shown : age ≤ next_age puts.clock
  pub least : (node : ℕ) → node < model.nodes → 0 < length next → age ≤ (bound_at puts node).stamp
      → (bound_at puts node).least ≤ℤ gap_added model v next node node place

-- what is kept of vehicle v is of this list
pub record IsPutsOf (model : Model) (v : ℕ) (list : List ℕ) (puts : Puts) : Type 0 where
  pub row : puts.row ≡ list
  pub kept : ArePuts model v puts

-- nothing is kept
abbrev pub no_puts : Puts
no_puts = record { row = []; ages = []; clock = 0; bounds = [] }

-- what is kept of each vehicle is of its list
abbrev pub AreAllPuts : Model → List (List ℕ) → List Puts → Type 0
AreAllPuts model lists puts = (v : ℕ) → v < length lists
    → IsPutsOf model v (route lists v) (slice_index_or puts v no_puts)

-- what contracts see of arc costs with their bounds
pub record KeptBounded : Type 0 where
  pub model : Model
  pub arcs : KeptAlong
  pub puts : List Puts

-- arc costs and bounds are of the same model and of these lists
pub record StandsBounded (kept : KeptBounded) (tours : Tours) : Type 0 where
  pub arcs_model : kept.arcs.model ≡ kept.model
  pub arcs : StandsAlong kept.arcs tours
  pub many : length kept.puts ≡ length tours.lists
  pub puts : AreAllPuts kept.model tours.lists kept.puts
