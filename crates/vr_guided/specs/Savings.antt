-- What moves save of the penalised arc costs.
use Rattle.std.specs.Prelude.{◌≡◌, ℕ, ◌<◌, cond, ◌==◌, [], ◌∷◌, ◌++◌, List, All, take, drop, ℤ, pos}
use Rattle.std.specs.Prelude.{◌+ℤ◌, ◌-ℤ◌, ◌≤ℤ◌, IsTrue}
use Rattle.vr_model.specs.moves.Moves.{apply}
use Rattle.vr_model.specs.moves.MoveTests.{is_move}
use Rattle.vr_model.specs.declared.neighbours.Move.{Move}
use Rattle.vr_routes.specs.Runs.{with_last}
use Rattle.vr_model.specs.routes.Routes.{route}
use Rattle.vr_model.specs.search.GuidedSearches.{Penalties, penalised}
use Rattle.vr_model.specs.declared.records.Model.{Model}
use Rattle.vr_known.specs.declared.touched.Touched.{Touched}
use Rattle.vr_guided.specs.Walks.{route_weight, stretch_weight}
use Rattle.vr_balance.specs.Sums.{last_of}
use Rattle.vr_model.specs.tables.Tables.{vehicle_at}

-- what the arcs of two vehicles with their lists add up to, those of one if both are the same
abbrev pub touched_weight : Model → Penalties → List (List ℕ) → Touched → ℤ
touched_weight model p lists touched =
    route_weight model p touched.first (route lists touched.first)
    +ℤ cond (touched.second == touched.first) (pos 0)
    (route_weight model p touched.second (route lists touched.second))

-- neither this move nor one that differs from it in its last number takes more than this much of the penalised arc
-- costs
abbrev pub SavesAtMost : Model → Penalties → List (List ℕ) → Move → ℤ → Type 0
SavesAtMost model p lists mv saved = (k : ℕ) → IsTrue (is_move model lists (with_last mv k))
    → (penalised model p lists -ℤ penalised model p (apply model lists (with_last mv k))) ≤ℤ saved

-- whatever nodes come in place of those of a list from one place up to another, the arcs add less by at most this much
abbrev pub TakesAtMost : Model → Penalties → ℕ → List ℕ → ℕ → ℕ → ℤ → Type 0
TakesAtMost model p v list front behind most = (middle : List ℕ) → All (λ node. node < model.nodes) middle
    → (route_weight model p v list -ℤ route_weight model p v (take front list ++ (middle ++ drop behind list))) ≤ℤ most

-- the arc between the two nodes at a gap of a list adds at most this much
abbrev pub CutAtMost : Model → Penalties → ℕ → List ℕ → ℕ → ℤ → Type 0
CutAtMost model p v list t most = (next : ℕ) (others : List ℕ)
    → drop t list ++ (vehicle_at model v).end ∷ [] ≡ next ∷ others
    → stretch_weight model p v (last_of (vehicle_at model v).start (take t list)) [] next ≤ℤ most

-- two vehicles have the same arc costs, and start and end at the same nodes
pub record AreAlike (model : Model) (v w : ℕ) : Type 0 where
  pub costs : (vehicle_at model v).costs ≡ (vehicle_at model w).costs
  pub starts : (vehicle_at model v).start ≡ (vehicle_at model w).start
  pub ends : (vehicle_at model v).end ≡ (vehicle_at model w).end
