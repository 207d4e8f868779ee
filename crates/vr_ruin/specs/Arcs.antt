-- The arcs of a list, kept beside it.
use Rattle.std.specs.Prelude.{◌≡◌, ℕ, suc, ◌<◌, ◌^◌, false, List, length, slice_index_or, ℤ, pos, ◌≤ℤ◌}
use Rattle.vr_model.specs.routes.Routes.{is_empty}
use Rattle.vr_model.specs.declared.records.Model.{Model}
use Rattle.vr_ruin.specs.Increases.{arc_cost_at}

-- what the arc to place t costs
pub record IsArcAt (model : Model) (v : ℕ) (list : List ℕ) (t : ℕ) (x : ℤ) : Type 0 where
  pub value : x ≡ arc_cost_at model v list t
  pub low : pos 0 ≤ℤ x
  pub high : x ≤ℤ pos (2 ^ 40)

-- what the arcs of a list of vehicle v cost: those to each place, and the one to its end
pub record AreArcs (model : Model) (v : ℕ) (list : List ℕ) (arcs : List ℤ) : Type 0 where
  pub many : length arcs ≡ suc (length list)
  pub each : (t : ℕ) (other : ℤ) → t < length arcs → IsArcAt model v list t (slice_index_or arcs t other)

-- the same of a list that is not empty
abbrev pub AreArcsIfUsed : Model → ℕ → List ℕ → List ℤ → Type 0
AreArcsIfUsed model v list arcs = is_empty list ≡ false → AreArcs model v list arcs
