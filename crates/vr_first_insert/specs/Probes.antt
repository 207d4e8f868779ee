-- What a list reaches at a stop in each dimension.
use Rattle.std.specs.Prelude.{◌≡◌, ℕ, suc, ◌+◌, ◌<◌, ◌≤◌, Bool, false, List, [], length, slice_index_or}
use Rattle.std.specs.List.{list_any}
use Rattle.vr_spans.specs.declared.runs.Run.{Run}
use Rattle.vr_model.specs.declared.records.Model.{Model}
use Rattle.vr_model.specs.tables.Numbers.{below}
use Rattle.vr_reach.specs.Lists.{IsUsed}
use Rattle.vr_reach.specs.Standing.{is_stuck, IsReachedAt}
use Rattle.vr_reach.specs.Stretches.{SharesBack, SharesFront}
use Rattle.vr_rules.specs.RoutesOpen.{is_feasible_in_each}
use Rattle.vr_first_insert.specs.declared.list_rows.ListRows.{ListRows}
use Rattle.vr_first_insert.specs.declared.probes.Probes.{Probes}
use Rattle.vr_first_insert.specs.declared.vehicle_list.LookedUpList.{LookedUpList}
use Rattle.vr_first_insert.specs.KeptRows.{list_model, AreKeptOf}

-- the levels are what vehicle v reaches at stop k of a list, in each dimension
pub record AreReachedAt (model : Model) (v : ℕ) (list : List ℕ) (k : ℕ) (probes : Probes) : Type 0 where
  pub enough : length model.dimensions ≤ length probes.here.items
  pub each : (d : ℕ) (other : List (List Run)) → d < length model.dimensions
      → IsReachedAt model d v list k (slice_index_or probes.here.items d other)

-- a list that reaches the levels at a stop has a dimension without a feasible line
abbrev pub ReachNoEnd : Model → Probes → Type 0
ReachNoEnd model probes = (v : ℕ) (list : List ℕ) (k : ℕ) → v < length model.vehicles → IsUsed model list
    → k ≤ suc (length list) → AreReachedAt model v list k probes → is_feasible_in_each model v list ≡ false

-- nothing is reached in some dimension
abbrev pub is_stuck_in_some : Model → Probes → Bool
is_stuck_in_some model probes =
    list_any (λ d. is_stuck (slice_index_or probes.here.items d [])) (below (length model.dimensions))

-- a list may leave the one before after its first nodes: it shares these with it, and the rows of the one before are
-- kept
pub record MayLeave (old : LookedUpList) (new : List ℕ) (shared : ℕ) (list_rows : List ListRows) : Type 0 where
  pub kept : AreKeptOf (list_model old) old.vehicle old.nodes.now list_rows
  pub used : IsUsed (list_model old) new
  pub front : SharesFront old.nodes.now new shared

-- a walk that is at stop k of a list may go to its last nodes, which it shares with the one before
pub record MayGoFrom (old : LookedUpList) (new : List ℕ) (k shared : ℕ) (list_rows : List ListRows)
    (probes : Probes) : Type 0 where
  pub kept : AreKeptOf (list_model old) old.vehicle old.nodes.now list_rows
  pub used : IsUsed (list_model old) new
  pub here : AreReachedAt (list_model old) old.vehicle new k probes
  pub back : SharesBack old.nodes.now new shared
  pub apart : k + shared ≤ length new

-- a walk that is at stop k of a list may go on to the next
pub record MayGoOn (model : Model) (v : ℕ) (list : List ℕ) (k : ℕ) (probes : Probes) : Type 0 where
  pub vehicle : v < length model.vehicles
  pub used : IsUsed model list
  pub stop : k ≤ length list
  pub here : AreReachedAt model v list k probes
