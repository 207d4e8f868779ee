-- Walks along routes, which add up penalised costs of arcs.
use Rattle.std.specs.Prelude.{ℕ, cond, ◌==◌, ◌++◌, ◌+◌, ◌*◌, ◌^◌, ◌<◌, List, [], ◌∷◌, ℤ, pos, ◌+ℤ◌, ◌*ℤ◌, ◌≤ℤ◌}
use Rattle.vr_model.specs.tables.Numbers.{total_by}
use Rattle.vr_model.specs.routes.Routes.{UsedArc, arcs_from, arcs_of, cost_of_arc}
use Rattle.vr_model.specs.tables.Tables.{vehicle_at}
use Rattle.vr_model.specs.search.GuidedSearches.{Penalties, penalty_of}
use Rattle.vr_model.specs.declared.records.Model.{Model}
use Rattle.vr_guided.specs.declared.walks.Walk.{Walk}

-- what an arc adds: its cost times its penalty
abbrev pub arc_weight : Model → Penalties → UsedArc → ℤ
arc_weight model penalties arc = pos (penalty_of penalties arc) *ℤ cost_of_arc model arc

-- what the arcs of vehicle v with this list add up to
abbrev pub route_weight : Model → Penalties → ℕ → List ℕ → ℤ
route_weight model penalties v list = total_by (arc_weight model penalties) (arcs_of model v list)

-- a walk goes on to a node
abbrev pub stepped : Model → Penalties → ℕ → Walk → ℕ → Walk
stepped model penalties v walk node = record {
  at = node;
  arcs = walk.arcs + 1;
  total = walk.total +ℤ arc_weight model penalties (record { vehicle = v; origin = walk.at; target = node });
}

-- a walk goes on through nodes
abbrev pub walked : Model → Penalties → ℕ → Walk → List ℕ → Walk
walked model penalties v walk [] = walk
walked model penalties v walk (node ∷ nodes) = walked model penalties v (stepped model penalties v walk node) nodes

-- a walk that begins at a node
abbrev pub walk_begun : ℕ → Walk
walk_begun node = record { at = node; arcs = 0; total = pos 0 }

-- the walk is at a node below n, and its total is from 0 to 2^70 times the number of its arcs
pub record IsSoundWalk (n : ℕ) (walk : Walk) : Type 0 where
  pub node : walk.at < n
  pub low : pos 0 ≤ℤ walk.total
  pub high : walk.total ≤ℤ pos (walk.arcs * 2 ^ 70)

-- what the arcs of vehicle v add up to from a node through others to a last one
abbrev pub stretch_weight : Model → Penalties → ℕ → ℕ → List ℕ → ℕ → ℤ
stretch_weight model penalties v start nodes next =
    total_by (arc_weight model penalties) (arcs_from v start (nodes ++ next ∷ []))

-- what the arc from the start of vehicle v to its end would add if it has no visits, 0 if it has some
abbrev pub unused_weight : Model → Penalties → ℕ → ℕ → ℤ
unused_weight model penalties v len =
    let ends = vehicle_at model v in
    let bare : UsedArc = record { vehicle = v; origin = ends.start; target = ends.end } in
    cond (len == 0) (arc_weight model penalties bare) (pos 0)
