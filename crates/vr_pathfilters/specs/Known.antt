-- What a filter of a dimension knows of the lists that it is in sync with.
use Rattle.std.specs.Prelude.{◌≡◌, ℕ, ◌<◌, Bool, true, cond, nat_lt, List, length, slice_index_or, IsTrue}
use Rattle.std.specs.Prelude.{Option, None, is_some}
use Rattle.vr_model.specs.moves.Moves.{with_route}
use Rattle.vr_model.specs.routes.Routes.{route}
use Rattle.vr_model.specs.tables.WellFormed.{IsWellFormed, WherePresent}
use Rattle.vr_model.specs.declared.records.Model.{Model}
use Rattle.vr_reach.specs.Rows.{BothWays}
use Rattle.vr_reach.specs.KnownRows.{AreRowsIfUsed}
use Rattle.vr_reach.specs.Lists.{is_feasible_list}
use Rattle.vr_routes.specs.Tours.{Tours}
use Rattle.vr_routes.specs.Pieces.{ListAfter, joined, changed, part_at}
use Rattle.vr_loads.specs.Loads.{is_load}
use Rattle.vr_loads.specs.Kept.{AreCarried}
use Rattle.vr_loads.specs.declared.loads.Carried.{Carried}
use Rattle.vr_pathfilters.specs.Lists.{holds_of_each}
use Rattle.vr_pathfilters.specs.TourLists.{AreTours}

-- the rows of each vehicle are those of its list
abbrev pub AreKnown : Model → ℕ → List (List ℕ) → List BothWays → Type 0
AreKnown model d lists known = (v : ℕ) (default : BothWays) → v < length known
    → AreRowsIfUsed model d v (route lists v) (slice_index_or known v default)

-- the rows are those of the lists of all vehicles
pub record KnowsRows (model : Model) (d : ℕ) (known : List BothWays) (lists : List (List ℕ)) : Type 0 where
  pub known_of_each : length known ≡ length model.vehicles
  pub known_are : AreKnown model d lists known

-- the dimension is a load, and what is kept of it is of the lists of all vehicles
pub record KnowsLoads (model : Model) (d : ℕ) (lists : List (List ℕ)) (carried : List Carried) : Type 0 where
  pub load : IsTrue (is_load model d)
  pub carried_are : AreCarried model d lists carried

-- a filter of dimension d with these loads or rows is in sync with the lists. Loads are kept if the dimension is a
-- load, and rows if it is none.
pub record StandsAt (model : Model) (d : ℕ) (loads : Option (List Carried)) (known : List BothWays)
    (tours : Tours) : Type 0 where
  pub well_formed : IsWellFormed model
  pub dimension : d < length model.dimensions
  pub tours_are : AreTours model tours
  pub loads_known : is_some loads ≡ is_load model d
  pub loads_are : WherePresent (KnowsLoads model d tours.lists) loads
  pub rows_are : loads ≡ None → KnowsRows model d known tours.lists
  pub rule : IsTrue (holds_of_each (is_feasible_list model d) tours.lists)

-- the rows are those of the list of part k of a change, if there is that part
abbrev pub AreRowsOfPart : Model → ℕ → List (List ℕ) → List ListAfter → ℕ → BothWays → Type 0
AreRowsOfPart model d lists parts k rows = k < length parts
    → AreRowsIfUsed model d (part_at parts k).vehicle (joined lists (part_at parts k).pieces) rows

-- lists with the list of part k of a change of others, if there is that part
abbrev pub with_part : List (List ℕ) → List ListAfter → ℕ → List (List ℕ) → List (List ℕ)
with_part old parts k lists = cond (nat_lt k (length parts))
    (with_route lists (part_at parts k).vehicle (joined old (part_at parts k).pieces)) lists

-- the rows are those of the first two parts of a change, as far as it has them
pub record AreRowsOfParts (model : Model) (d : ℕ) (first second : BothWays) (lists : List (List ℕ))
    (parts : List ListAfter) : Type 0 where
  pub first_are : AreRowsOfPart model d lists parts 0 first
  pub second_are : AreRowsOfPart model d lists parts 1 second

-- the rows of each part of a change were made, if rows are kept, and the rule holds after it
pub record IsReady (model : Model) (d : ℕ) (is_prepared : Bool) (loads : Option (List Carried))
    (first second : BothWays) (lists : List (List ℕ)) (parts : List ListAfter) : Type 0 where
  pub prepared : is_prepared ≡ true
  pub rows_are : loads ≡ None → AreRowsOfParts model d first second lists parts
  pub rule : IsTrue (holds_of_each (is_feasible_list model d) (changed lists parts))
