-- What makes the steps of a search.
use Rattle.std.specs.Prelude.{◌≡◌, List}
use Rattle.rand_pcg.specs.Lcg.{Lcg}
use Rattle.vr_model.specs.declared.records.Model.{Model}
use Rattle.vr_rules.specs.declared.items.Candidate.{Candidate}
use Rattle.vr_rules.specs.Placing.{AreCandidates}

-- a model, and the words that are left
pub record Stepping : Type 0 where
  pub model : Model
  pub words : Lcg

-- all that it has is of one model
pub record IsStepper (model ringed keyed : Model) (candidates : List Candidate) : Type 0 where
  pub ringed_is : ringed ≡ model
  pub keyed_is : keyed ≡ model
  pub candidates_are : AreCandidates model candidates
