use Rattle.std.proofs.Common.{Ok, Err, refl, sym, ap, ◌∙◌}
use Rattle.vr_json.proofs.Steps.{stops}
use Rattle.vr_tsplib.specs.declared.flaws.LineFail.TheVariants.{Flawed}
use Rattle.vr_tsplib.specs.Imported.{model_of_lines}
use Rattle.vr_tsplib.proofs.AnswerSteps.{answers_value, at_value, line_flaw, refused}
use Rattle.vr_tsplib.proofs.Chains.{goes}
use Rattle.vr_tsplib.proofs.RangeLemmas.{complete_ranges}
use Rattle.vr_tsplib.proofs.imports.model.Goals as goal

pub tree-requires-clause-few : goal.tree-requires-clause-few
tree-requires-clause-few c = ((complete_ranges c.args.state.now c.requires).of_value c.in-Ok.problem (sym c.in-Ok.ensures)).nodes.1

pub returns-in_ok-tree-in-Ok : goal.returns-in_ok-tree-in-Ok
unfolding model_of_lines
returns-in_ok-tree-in-Ok c = answers_value (goes _ (at_value 0 (sym c.in-Ok.ensures)) ∙ ap Ok (sym c.in_ok-tree-in-Ok.ensures))

pub returns-in-Err : goal.returns-in-Err
unfolding model_of_lines
returns-in-Err c = stops (Err c.refusal.result) _ (refused (Flawed c.in-Err.flaw) 0 c.refusal.result (line_flaw (sym c.in-Err.ensures)) c.refusal.ensures) refl
