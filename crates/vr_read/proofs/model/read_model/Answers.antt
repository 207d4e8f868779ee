use Rattle.std.proofs.Common.{refl}
use Rattle.serde_json.specs.View.{view}
use Rattle.vr_json.proofs.Steps.{then, stops, gives}
use Rattle.vr_read.specs.Models.{read_model}
use Rattle.vr_read.proofs.WellFormedModels.{has_parts_answer, well_formed_answer}
use Rattle.vr_read.proofs.model.read_model.Goals as goal

pub invariant_of-tabled : goal.invariant_of-tabled
invariant_of-tabled c = record { parts = has_parts_answer c.args.path.now (view c.args.value.now) c.in_ok-model.ensures }

pub returns-in_err-model-clause-found : goal.returns-in_err-model-clause-found
unfolding read_model
returns-in_err-model-clause-found c = stops _ _ c.in_err-model.ensures c.from_residual.ensures.1

pub returns-in_err-keep_rules-clause-found : goal.returns-in_err-keep_rules-clause-found
unfolding read_model
returns-in_err-keep_rules-clause-found c = then _ c.in_ok-model.ensures (stops _ _ c.in_err-keep_rules.ensures c.from_residual-in_err-keep_rules.ensures.1)

pub returns-clause-found : goal.returns-clause-found
unfolding read_model
returns-clause-found c = then _ c.in_ok-model.ensures (then _ c.in_ok-keep_rules.ensures (gives refl))

pub returns-clause-well_formed : goal.returns-clause-well_formed
returns-clause-well_formed c = well_formed_answer c.args.path.now (view c.args.value.now) (returns-clause-found c)
