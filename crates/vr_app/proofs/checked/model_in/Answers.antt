use Rattle.serde_json.specs.View.{view}
use Rattle.vr_json.proofs.Readings.{answered}
use Rattle.vr_given.proofs.GivenLemmas.{model_field_ensures}
use Rattle.vr_app.proofs.checked.model_in.Goals as goal

pub returns-clause-well_formed : goal.returns-clause-well_formed
returns-clause-well_formed c = answered (model_field_ensures c.args.path.now (view c.args.value.now)) c.required.ensures
