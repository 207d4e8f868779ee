-- What is known of the list of a vehicle.
use Rattle.std.specs.Prelude.{ℕ, ◌<◌, ◌≤◌, All, List, length}
use Rattle.vr_model.specs.declared.records.Model.{Model}

-- nodes of a model, and few
pub record AreFewNodes (model : Model) (nodes : List ℕ) : Type 0 where
  pub below : All (λ node. node < model.nodes) nodes
  pub short : length nodes ≤ 1000
