use Rattle.std.proofs.Common.{length, sym, ap, ◌∙◌, arith}
use Rattle.std.specs.Prelude.{codes}
use Rattle.vr_json.specs.Paths.{name_path, item_path}
use Rattle.vr_json.proofs.Steps.{asked}
use Rattle.vr_model.specs.tables.ModelRules.{is_large}
use Rattle.vr_model.specs.tables.Tables.{no_evaluator}
use Rattle.vr_read.specs.Rules.{entry_rule}
use Rattle.vr_read.proofs.RuleLoops.{rule_passes, rule_stops, rule_ends}
use Rattle.vr_read.proofs.model_rules.keep_dimension_entries.Goals as goal

pub returns-in_err-refuse_field : goal.returns-in_err-refuse_field
returns-in_err-refuse_field c =
    let model = c.args.model.now in let dimension = c.args.dimension.now in
    rule_stops (entry_rule c.args.path.now model dimension) (length dimension.evaluators) c.loop-k.k c.loop-k.invariant (omega arith) _
    (asked _ (c.has_large_entry-broken.ensures ∙ ap (λ evaluator. is_large model evaluator.matrix) (sym (c.get.ensures.value no_evaluator)))
    (ap (λ p. name_path (item_path p c.loop-k.k) (codes "matrix")) c.in_ok-evaluators.ensures) c.in_err-refuse_field.ensures)
    c.from_residual-in_err-refuse_field.ensures.1

pub loop-k-preserved : goal.loop-k-preserved
loop-k-preserved c =
    let model = c.args.model.now in let dimension = c.args.dimension.now in
    rule_passes (entry_rule c.args.path.now model dimension) (length dimension.evaluators) c.loop-k.k c.loop-k.invariant (omega arith)
    (asked _ (c.has_large_entry-broken.ensures ∙ ap (λ evaluator. is_large model evaluator.matrix) (sym (c.get.ensures.value no_evaluator)))
    (ap (λ p. name_path (item_path p c.loop-k.k) (codes "matrix")) c.in_ok-evaluators.ensures) c.in_ok-refuse_field.ensures)

pub returns : goal.returns
returns c =
    let dimension = c.args.dimension.now in
    rule_ends (entry_rule c.args.path.now c.args.model.now dimension) (length dimension.evaluators) c.loop-k.k c.loop-k.invariant (omega arith)
