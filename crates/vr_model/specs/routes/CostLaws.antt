-- What valid lists of a well-formed model cost, as a statement.
use Rattle.std.specs.Prelude.{ℕ, ◌*◌, ◌^◌, ◌-◌, List, IsTrue, pos, ◌≤ℤ◌, ◌<ℤ◌}
use Rattle.vr_model.specs.tables.WellFormed.{IsIn, IsWellFormed}
use Rattle.vr_model.specs.routes.Rules.{is_valid}
use Rattle.vr_model.specs.routes.Costs.{parts_at, assigned, sum_of, cost}
use Rattle.vr_model.specs.declared.records.Model.{Model}
use Rattle.vr_model.specs.declared.records.Parts.{Parts}

-- No part is negative, each has its bound, and so has their sum. At most 1000 visits in the lists of at most 100
-- vehicles have 1100 arcs and 1200 stops in each of 4 dimensions. There are at most 1000 groups of at most 1000 nodes.
pub record AreBounded (parts : Parts) : Type 0 where
  pub arcs : IsIn (pos 0) (pos (1100 * 2 ^ 40)) parts.arcs
  pub fixed : IsIn (pos 0) (pos (100 * 2 ^ 40)) parts.fixed
  pub global : IsIn (pos 0) (pos (4 * 10000 * 2 ^ 36)) parts.global
  pub penalty : IsIn (pos 0) (pos (1000 * 1000 * 2 ^ 40)) parts.penalty
  pub soft : IsIn (pos 0) (pos (1200 * 4 * 10000 * 2 ^ 36)) parts.soft
  pub span : IsIn (pos 0) (pos (100 * 4 * 10000 * 2 ^ 36)) parts.span
  pub sum : sum_of parts <ℤ pos (2 ^ 63)

-- the parts of the cost of lists are bounded, and so the cost is a number that an i64 holds
pub record HasBoundedCost (model : Model) (lists : List (List ℕ)) : Type 0 where
  pub parts : AreBounded (parts_at model (assigned model lists))
  pub least : pos 0 ≤ℤ cost model lists
  pub greatest : cost model lists ≤ℤ pos (2 ^ 63 - 1)

-- the cost of valid lists of a well-formed model is bounded
abbrev pub CostsAreBounded : Type 0
CostsAreBounded = (model : Model) → IsWellFormed model → (lists : List (List ℕ)) → IsTrue (is_valid model lists)
    → HasBoundedCost model lists
