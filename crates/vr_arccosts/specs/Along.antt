-- Sums of arc costs along the lines of vehicles.
use Rattle.std.specs.Prelude.{◌≡◌, All, IsTrue, ℕ, ◌<◌, true, cond, ℤ, pos, ◌+ℤ◌}
use Rattle.std.specs.Prelude.{List, [], ◌++◌, drop, length, slice_index_or, take}
use Rattle.vr_model.specs.tables.Tables.{arc_cost, vehicle_at, visits}
use Rattle.vr_model.specs.routes.Rules.{is_valid}
use Rattle.vr_model.specs.tables.WellFormed.{IsWellFormed}
use Rattle.vr_routes.specs.Tours.{Tours}
use Rattle.vr_model.specs.routes.Routes.{is_empty, route}
use Rattle.vr_model.specs.declared.records.Model.{Model}
use Rattle.vr_balance.specs.Sums.{last_of, line_nodes, path_sum, AreSumsTo}
use Rattle.vr_arccosts.specs.Chains.{first_node_or, turned}
use Rattle.vr_arccosts.specs.declared.lines.Along.{Along}

-- what the arcs of vehicle v cost from the stop before place f of its list through nodes to the stop at place b. It is
-- 0 if no node is left of the list then.
abbrev pub between_cost : Model → ℕ → List ℕ → ℕ → ℕ → List ℕ → ℤ
between_cost model v list f b nodes =
    let from = last_of (vehicle_at model v).start (take f list) in
    let to = first_node_or (drop b list) (vehicle_at model v).end in
    cond (is_empty (take f list ++ (nodes ++ drop b list))) (pos 0)
    (path_sum (arc_cost model v) from nodes +ℤ arc_cost model v (last_of from nodes) to)

-- the sums of no line
abbrev pub no_sums : Along
no_sums = record { ahead = []; behind = [] }

-- the sums are those of the first n arcs of the line of vehicle v with a list, ahead and backwards
pub record IsAlongTo (model : Model) (v : ℕ) (list : List ℕ) (n : ℕ) (along : Along) : Type 0 where
  pub ahead : AreSumsTo (arc_cost model v) (vehicle_at model v).start (line_nodes model v list) n along.ahead
  pub behind : AreSumsTo (turned true (arc_cost model v)) (vehicle_at model v).start (line_nodes model v list) n
      along.behind

-- the same of all arcs of the line
abbrev pub IsAlong : Model → ℕ → List ℕ → Along → Type 0
IsAlong model v list along = IsAlongTo model v list (length (line_nodes model v list)) along

-- arc n of the line of vehicle v with a list goes from node `at` to node `next`
pub record IsArc (model : Model) (v : ℕ) (list : List ℕ) (n at next : ℕ) : Type 0 where
  pub inside : n < length (line_nodes model v list)
  pub from : at ≡ last_of (vehicle_at model v).start (take n (line_nodes model v list))
  pub to : next ≡ slice_index_or (line_nodes model v list) n 0

-- the sums of each vehicle are those of its list
abbrev pub AreAlong : Model → List (List ℕ) → List Along → Type 0
AreAlong model lists along = (v : ℕ) → v < length lists
    → IsAlong model v (route lists v) (slice_index_or along v no_sums)

-- the sums are those of the lists of all vehicles of a model, and all nodes of vehicle v are of it
pub record HaveAlong (model : Model) (v : ℕ) (lists : List (List ℕ)) (kept : List Along) : Type 0 where
  pub nodes : All (λ node. node < model.nodes) (route lists v)
  pub as_many : length lists ≡ length model.vehicles
  pub many : length kept ≡ length model.vehicles
  pub along : AreAlong model lists kept

-- what contracts see of the arc costs that are kept
pub record KeptAlong : Type 0 where
  pub model : Model
  pub along : List Along

-- these are valid lists of the model, and the sums are theirs
pub record StandsAlong (kept : KeptAlong) (tours : Tours) : Type 0 where
  pub well_formed : IsWellFormed kept.model
  pub of_model : tours.visits ≡ visits kept.model
  pub valid : IsTrue (is_valid kept.model tours.lists)
  pub as_many : length tours.lists ≡ length kept.model.vehicles
  pub many : length kept.along ≡ length kept.model.vehicles
  pub along : AreAlong kept.model tours.lists kept.along
