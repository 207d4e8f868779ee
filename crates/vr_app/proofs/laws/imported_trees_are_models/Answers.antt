use Rattle.vr_app.proofs.ImportedModels.{imported_trees_are_models}
use Rattle.vr_app.proofs.laws.imported_trees_are_models.Goals as goal

pub returns : goal.returns
returns c = imported_trees_are_models
