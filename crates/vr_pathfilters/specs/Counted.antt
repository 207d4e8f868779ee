-- How many pickups and deliveries are in a list up to each of its nodes.
use Rattle.std.specs.Prelude.{◌≡◌, ℕ, ◌+◌, ◌<◌, ◌≤◌, Bool, true, false, cond}
use Rattle.std.specs.Prelude.{All, IsTrue}
use Rattle.std.specs.Prelude.{◌==◌, List, length, take, slice_index, slice_index_or, Option, Some, None}
use Rattle.vr_model.specs.first.Items.{pair_of}
use Rattle.vr_model.specs.routes.Routes.{is_distinct}
use Rattle.vr_model.specs.declared.records.Model.{Model}
use Rattle.vr_model.specs.declared.records.Pair.{Pair}
use Rattle.vr_model.specs.declared.records.Policy.{Policy}
use Rattle.vr_model.specs.declared.records.Policy.TheVariants.{Any, Lifo, Fifo}
use Rattle.vr_reach.specs.Spliced.{AreSeams}
use Rattle.vr_pathfilters.specs.declared.policies.counts.Counts.{Counts}
use Rattle.vr_pathfilters.specs.Turns.{deliveries_in, pickups_in}

-- how many pickups and how many deliveries are among some nodes
abbrev pub pair_counts : Model → List ℕ → Counts
pair_counts model nodes = record { pickups = pickups_in model nodes; deliveries = deliveries_in model nodes }

-- neither
abbrev pub no_counts : Counts
no_counts = record { pickups = 0; deliveries = 0 }

-- a number of nodes, at most as many as three lists of 1000 nodes have
abbrev pub IsOfThreeLists : ℕ → Type 0
IsOfThreeLists many = many ≤ 3000

-- what a table has of a node
abbrev pub count_of : List Counts → ℕ → Counts
count_of table node = slice_index_or table node no_counts

-- distinct nodes of the largest model
pub record CanBeCounted (list : List ℕ) : Type 0 where
  pub nodes : All (λ node. node < 1000) list
  pub few : length list ≤ 1000
  pub distinct : IsTrue (is_distinct list)

-- a table has, for each node of a list, the counts of the list up to it
pub record AreCounted (model : Model) (list : List ℕ) (table : List Counts) : Type 0 where
  pub up_to : (k : ℕ) → k < length list → count_of table (slice_index list k) ≡ pair_counts model (take (k + 1) list)

-- with one node more, of a pair if it is in one
abbrev pub with_node_of : Option Pair → Counts → ℕ → Counts
with_node_of None before node = before
with_node_of (Some pair) before node = cond (pair.pickup == node)
    (record { pickups = before.pickups + 1; deliveries = before.deliveries })
    (record { pickups = before.pickups; deliveries = before.deliveries + 1 })

-- with one node more
abbrev pub with_node : Model → Counts → ℕ → Counts
with_node model before node = with_node_of (pair_of model node) before node

-- the policy asks something of pairs
abbrev pub asks_turns : Policy → Bool
asks_turns Any = false
asks_turns Lifo = true
asks_turns Fifo = true

-- a list is counted, and the nodes that replace a stretch of it
pub record IsNewCounted (model : Model) (old : List ℕ) (front behind : ℕ) (middle : List ℕ)
    (listed between : List Counts) : Type 0 where
  pub seams : AreSeams (length old) front behind
  pub few : length old ≤ 1000
  pub few_between : length middle ≤ 1000
  pub listed_are : AreCounted model old listed
  pub between_are : AreCounted model middle between
