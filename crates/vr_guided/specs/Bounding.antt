-- What augmented costs come to, as a statement.
use Rattle.std.specs.Prelude.{ℕ, ◌^◌, List, IsTrue, ℤ, pos, ◌≤ℤ◌, ◌<ℤ◌}
use Rattle.vr_model.specs.tables.WellFormed.{IsIn, IsWellFormed}
use Rattle.vr_model.specs.routes.Rules.{is_valid}
use Rattle.vr_model.specs.search.GuidedSearches.{Penalties, augmented}
use Rattle.vr_model.specs.declared.records.Model.{Model}
use Rattle.vr_model.specs.declared.search.Lambda.{Lambda}
use Rattle.vr_guided.specs.Counts.{AtMost}

-- both parts of lambda are in 1..=1000
pub record IsLambda (lambda : Lambda) : Type 0 where
  pub p_in_range : IsIn (pos 1) (pos 1000) lambda.p
  pub q_in_range : IsIn (pos 1) (pos 1000) lambda.q

-- an augmented cost is not negative, and below 2^100
pub record IsBounded (cost : ℤ) : Type 0 where
  pub least : pos 0 ≤ℤ cost
  pub below : cost <ℤ pos (2 ^ 100)

-- valid lists of a well-formed model have a bounded augmented cost, with such a lambda, if no arc was penalised more
-- than 10^9 times
abbrev pub AugmentedCostsAreBounded : Type 0
AugmentedCostsAreBounded =
    (model : Model) → IsWellFormed model → (lambda : Lambda) → IsLambda lambda
    → (penalties : Penalties) → AtMost 1000000000 penalties → (lists : List (List ℕ)) → IsTrue (is_valid model lists)
    → IsBounded (augmented model lambda penalties lists)
