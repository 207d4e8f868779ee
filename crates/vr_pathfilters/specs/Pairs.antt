-- What the filter of pairs knows and asks.
use Rattle.std.specs.Prelude.{◌≡◌, ℕ, ◌==◌, ◌&&◌, ◌||◌, ◌<◌, ◌≤◌, Bool, true, false, List, length, nat_lt, slice_index}
use Rattle.std.specs.Prelude.{IsTrue, Option, Some, None}
use Rattle.vr_model.specs.first.Items.{pair_of}
use Rattle.vr_model.specs.routes.Routes.{route, holds, is_distinct}
use Rattle.vr_model.specs.routes.Rules.{serves_pair}
use Rattle.vr_model.specs.tables.Tables.{vehicle_at}
use Rattle.vr_model.specs.tables.WellFormed.{IsWellFormed}
use Rattle.vr_model.specs.declared.records.Model.{Model}
use Rattle.vr_model.specs.declared.records.Pair.{Pair}
use Rattle.vr_pathfilters.specs.Counted.{AreCounted, asks_turns, count_of}
use Rattle.vr_pathfilters.specs.declared.policies.counts.Counts.{Counts}
use Rattle.vr_routes.specs.Seats.{IsOnce}
use Rattle.vr_routes.specs.Tours.{Tours}
use Rattle.vr_reach.specs.Spliced.{spliced, AreSeams}
use Rattle.vr_pathfilters.specs.TourLists.{AreTours}

-- the tours are those of a well-formed model
pub record KnowsTours (model : Model) (tours : Tours) : Type 0 where
  pub well_formed : IsWellFormed model
  pub tours_are : AreTours model tours

-- the policy of vehicle v asks for turns
abbrev pub asks_turns_of : Model → ℕ → Bool
asks_turns_of model v = asks_turns (vehicle_at model v).policy

-- the list of each vehicle whose policy asks for turns is counted
abbrev pub AreAllCounted : Model → List (List ℕ) → List Counts → Type 0
AreAllCounted model lists listed = (v : ℕ) → v < length lists → IsTrue (asks_turns_of model v)
    → AreCounted model (route lists v) listed

-- the tours are those of a well-formed model, and the list of each vehicle whose policy asks for turns is counted
pub record KnowsPairs (model : Model) (listed : List Counts) (tours : Tours) : Type 0 where
  pub knows_tours : KnowsTours model tours
  pub counted : AreAllCounted model tours.lists listed

-- a list of vehicle v is counted, if its policy asks for turns, and what is kept of other nodes stays
pub record IsListCounted (model : Model) (v : ℕ) (list : List ℕ) (before after : List Counts) : Type 0 where
  pub counted : IsTrue (asks_turns_of model v) → AreCounted model list after
  pub others : (node : ℕ) → holds list node ≡ false → count_of after node ≡ count_of before node

-- a list serves a pair, if there is one
abbrev pub serves_if_any : List ℕ → Option Pair → Bool
serves_if_any list None = true
serves_if_any list (Some pair) = serves_pair list pair

-- a list serves the pair that a node is in
abbrev pub serves_node : Model → List ℕ → ℕ → Bool
serves_node model list node = serves_if_any list (pair_of model node)

-- the mark of a node is a place of it in a list
abbrev pub is_at_mark : List ℕ → List ℕ → ℕ → Bool
is_at_mark list marks node =
    nat_lt (slice_index marks node) (length list) && (slice_index list (slice_index marks node) == node)

-- the mark of each node of a list is a place of it
abbrev pub AreMarked : List ℕ → List ℕ → Type 0
AreMarked list marks = (node : ℕ) → IsTrue (holds list node) → IsTrue (is_at_mark list marks node)

-- a node is marked with a place of it in some nodes, or a list serves the pair that it is in
abbrev pub serves_unmarked : Model → List ℕ → List ℕ → List ℕ → ℕ → Bool
serves_unmarked model list nodes marks node = is_at_mark nodes marks node || serves_node model list node

-- the list of vehicle v keeps its front and its end, with marked nodes in the place of those between. In what it
-- becomes no node is there twice.
pub record IsNewList (lists : List (List ℕ)) (v front behind : ℕ) (middle marks : List ℕ) : Type 0 where
  pub vehicle : v < length lists
  pub once : IsOnce lists
  pub seams : AreSeams (length (route lists v)) front behind
  pub marked : AreMarked middle marks
  pub few : length (route lists v) ≤ 1000
  pub few_between : length middle ≤ 1000
  pub distinct : IsTrue (is_distinct (spliced (route lists v) front behind middle))
