-- What a plain judge knows of the lists that it has committed.
use Rattle.std.specs.Prelude.{◌≡◌, length, ℤ, pos, ◌≤ℤ◌}
use Rattle.vr_model.specs.routes.Costs.{cost}
use Rattle.vr_model.specs.tables.Tables.{visits}
use Rattle.vr_model.specs.declared.records.Model.{Model}
use Rattle.vr_routes.specs.Tours.{Tours}

-- a plain judge has committed routes. They and its scratch ones are of the model, the scratch ones with a list for each
-- vehicle. The number is what the lists cost.
pub record AreCommitted (model : Model) (routes scratch : Tours) (total : ℤ) : Type 0 where
  pub of_model : routes.visits ≡ visits model
  pub scratch_of_model : scratch.visits ≡ visits model
  pub scratch_for_all : length scratch.lists ≡ length model.vehicles
  pub costs : total ≡ cost model routes.lists
  pub least : pos 0 ≤ℤ total
