-- What an insertion adds to the arc costs of its vehicle, by the arcs at its places.
use Rattle.std.specs.Prelude.{ℕ, ◌-◌, ◌^◌, ◌==◌, cond, List, slice_index, slice_index_or}
use Rattle.std.specs.Prelude.{ℤ, pos, neg_ℤ, ◌+ℤ◌, ◌-ℤ◌, ◌≤ℤ◌}
use Rattle.vr_model.specs.tables.Tables.{arc_cost, vehicle_at}
use Rattle.vr_model.specs.routes.Routes.{is_empty}
use Rattle.vr_model.specs.declared.records.Model.{Model}

-- the node before place t of the list of vehicle v: the start before the first
abbrev pub node_before : Model → ℕ → List ℕ → ℕ → ℕ
node_before model v list t = cond (t == 0) (vehicle_at model v).start (slice_index list (t - 1))

-- the node at place t; the end after the last
abbrev pub node_behind : Model → ℕ → List ℕ → ℕ → ℕ
node_behind model v list t = slice_index_or list t (vehicle_at model v).end

-- what the arc to place t costs; nothing in an empty list
abbrev pub arc_cost_at : Model → ℕ → List ℕ → ℕ → ℤ
arc_cost_at model v list t = cond (is_empty list) (pos 0)
    (arc_cost model v (node_before model v list t) (node_behind model v list t))

-- from a node over another to a third, less what was driven there before
abbrev pub detour : Model → ℕ → ℕ → ℕ → ℕ → ℤ → ℤ
detour model v a x b before = (arc_cost model v a x +ℤ arc_cost model v x b) -ℤ before

-- a visit before place t
abbrev pub visit_increase : Model → ℕ → List ℕ → ℕ → ℕ → ℤ
visit_increase model v list x t = detour model v (node_before model v list t) x (node_behind model v list t)
    (arc_cost_at model v list t)

-- a pickup before place s and its delivery before place t
abbrev pub pair_increase : Model → ℕ → List ℕ → ℕ → ℕ → ℕ → ℕ → ℤ
pair_increase model v list pickup delivery s t = cond (s == t)
    (arc_cost model v (node_before model v list s) pickup
    +ℤ detour model v pickup delivery (node_behind model v list s) (arc_cost_at model v list s))
    (visit_increase model v list pickup s +ℤ visit_increase model v list delivery t)

-- no more and no less than a visit may add
pub record IsIncrease (n : ℤ) : Type 0 where
  pub low : neg_ℤ (pos (2 ^ 40)) ≤ℤ n
  pub high : n ≤ℤ pos (2 ^ 41)
