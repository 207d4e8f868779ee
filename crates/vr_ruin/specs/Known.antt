-- Lists whose rows are known.
use Rattle.std.specs.Prelude.{◌≡◌, ℕ, ◌-◌, ◌<◌, ◌≤◌, false, true, IsTrue, List, length, slice_index_or}
use Rattle.vr_loads.specs.Loads.{is_load}
use Rattle.vr_model.specs.schedules.Lines.{line}
use Rattle.vr_model.specs.schedules.Choices.{is_feasible}
use Rattle.vr_model.specs.declared.records.Model.{Model}
use Rattle.vr_reach.specs.Rows.{BothWays}
use Rattle.vr_reach.specs.KnownRows.{AreRowsIfUsed}
use Rattle.vr_reach.specs.Lists.{IsUsed}
use Rattle.vr_reach.specs.Stretches.{SharesEnds}
use Rattle.vr_reach.specs.declared.stretches.Stretch.{Stretch}
use Rattle.vr_ruin.specs.declared.placing.Placing.{Placing}
use Rattle.vr_ruin.specs.declared.placing.Placing.TheVariants.{One, Two}
use Rattle.vr_rules.specs.declared.items.Item.{Item}
use Rattle.vr_rules.specs.Placing.{item_nodes}
use Rattle.vr_ruin.specs.Arcs.{AreArcsIfUsed}
use Rattle.vr_ruin.specs.Carrying.{carries_all, AreSumsIfUsed}
use Rattle.vr_ruin.specs.declared.known.Changed.{Changed}
use Rattle.vr_ruin.specs.declared.known.KnownRoute.{KnownRoute}

-- the rows in each dimension that is no load are those of a list of vehicle v, if that is not empty
abbrev pub AreRowsIn : Model → ℕ → List ℕ → List BothWays → Type 0
AreRowsIn model v list rows = (d : ℕ) (other : BothWays) → d < length rows → is_load model d ≡ false
    → AreRowsIfUsed model d v list (slice_index_or rows d other)

-- the rows are those of the list, and so are the arcs and the sums of what it takes
pub record IsKnownRoute (model : Model) (v : ℕ) (route : KnownRoute) : Type 0 where
  pub many : length route.rows.items ≡ length model.dimensions
  pub rows_are : AreRowsIn model v route.nodes route.rows.items
  pub arcs_are : AreArcsIfUsed model v route.nodes route.arcs
  pub sums_are : AreSumsIfUsed model v route.nodes route.sums

-- each vehicle has a list whose rows are known
pub record AreKnownRoutes (model : Model) (routes : List KnownRoute) : Type 0 where
  pub many : length routes ≡ length model.vehicles
  pub each : (v : ℕ) (other : KnownRoute) → v < length routes → IsKnownRoute model v (slice_index_or routes v other)

-- the line of a list is feasible in each dimension that is a load
abbrev pub IsCarriedBy : Model → ℕ → List ℕ → Type 0
IsCarriedBy model v list = (d : ℕ) → d < length model.dimensions → is_load model d ≡ true
    → is_feasible (line model d v list) ≡ true

-- a list may be walked through from the one whose rows are known: what both share at their ends is said
pub record MayGo (changed : Changed) : Type 0 where
  pub vehicle : changed.vehicle < length changed.lookups.now.closed.model.now.vehicles
  pub known : IsKnownRoute changed.lookups.now.closed.model.now changed.vehicle changed.known.now
  pub used : IsUsed changed.lookups.now.closed.model.now changed.nodes.now
  pub shared : SharesEnds changed.known.now.nodes changed.nodes.now changed.shared

-- how many nodes a list of n nodes shares at its ends with one that has an item at its places
abbrev pub shared_of : ℕ → Placing → Stretch
shared_of n (One node t) = record { front = t; back = n - t }
shared_of n (Two pickup delivery s t) = record { front = s; back = n - t }

-- the places of an item end within a list of n nodes
abbrev pub IsEndWithin : ℕ → Placing → Type 0
IsEndWithin n (One node t) = t ≤ n
IsEndWithin n (Two pickup delivery s t) = t ≤ n

-- the rows of a list of vehicle v are known
pub record IsKnownList (model : Model) (v : ℕ) (list : List ℕ) (route : KnownRoute) : Type 0 where
  pub known : IsKnownRoute model v route
  pub nodes_are : route.nodes ≡ list

-- and the vehicle can carry an item too
pub record IsReady (model : Model) (v : ℕ) (list : List ℕ) (route : KnownRoute) (item : Item) : Type 0 where
  pub known : IsKnownList model v list route
  pub carries : IsTrue (carries_all model v list (item_nodes item))
