use Rattle.serde_json.specs.View.{view}
use Rattle.vr_json.proofs.Steps.{then}
use Rattle.vr_tsplib.specs.Imported.{imported}
use Rattle.vr_tsplib.proofs.AnswerSteps.{stops_seen}
use Rattle.vr_tsplib.proofs.imports.import.Goals as goal

pub returns-in_err-state : goal.returns-in_err-state
unfolding imported
returns-in_err-state c = stops_seen view c.from_residual.result _ c.in_err-state.ensures.lines c.from_residual.ensures.1

pub returns : goal.returns
unfolding imported
returns c = then _ c.in_ok-state.ensures.lines c.model.ensures
