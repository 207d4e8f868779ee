use Rattle.std.proofs.Common.{length, sym, ap, ◌∙◌, arith}
use Rattle.vr_json.specs.Paths.{item_path}
use Rattle.vr_json.proofs.Steps.{asked}
use Rattle.vr_model.specs.tables.Tables.{no_dimension}
use Rattle.vr_read.specs.Backward.{is_backward_dimension}
use Rattle.vr_read.specs.Rules.{transit_rule}
use Rattle.vr_read.proofs.RuleLoops.{rule_passes, rule_stops, rule_ends}
use Rattle.vr_read.proofs.model_rules.keep_transits.Goals as goal

pub returns-in_err-refuse_if : goal.returns-in_err-refuse_if
returns-in_err-refuse_if c =
    let model = c.args.of.model.now in
    rule_stops (transit_rule c.args.path.now model) (length model.dimensions) c.loop-d.d c.loop-d.invariant (omega arith) _
    (asked _ (c.goes_back-broken.ensures ∙ ap (is_backward_dimension model) (sym (c.get.ensures.value no_dimension)))
    (c.entry.ensures ∙ ap (λ p. item_path p c.loop-d.d) c.in_ok-dimensions.ensures) c.in_err-refuse_if.ensures) c.from_residual-in_err-refuse_if.ensures.1

pub loop-d-preserved : goal.loop-d-preserved
loop-d-preserved c =
    let model = c.args.of.model.now in
    rule_passes (transit_rule c.args.path.now model) (length model.dimensions) c.loop-d.d c.loop-d.invariant (omega arith)
    (asked _ (c.goes_back-broken.ensures ∙ ap (is_backward_dimension model) (sym (c.get.ensures.value no_dimension)))
    (c.entry.ensures ∙ ap (λ p. item_path p c.loop-d.d) c.in_ok-dimensions.ensures) c.in_ok-refuse_if.ensures)

pub returns : goal.returns
returns c =
    let model = c.args.of.model.now in
    rule_ends (transit_rule c.args.path.now model) (length model.dimensions) c.loop-d.d c.loop-d.invariant (omega arith)
