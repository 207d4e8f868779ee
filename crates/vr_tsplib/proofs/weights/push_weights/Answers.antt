use Rattle.std.proofs.Common.{◌∷◌, sym, ap, ◌∙◌}
use Rattle.vr_tsplib.specs.Rows.{weights_behind}
use Rattle.vr_tsplib.specs.Texts.{words}
use Rattle.vr_tsplib.proofs.RowLemmas.{no_weight, no_weight_more, one_weight_more}
use Rattle.vr_tsplib.proofs.LineSteps.{fails_seen, line_value}
use Rattle.vr_tsplib.proofs.weights.push_weights.Goals as goal

pub returns-in_err-weight : goal.returns-in_err-weight
returns-in_err-weight c =
    let all = c.loop-word.weights in
    let reading = sym c.loop-word.invariant ∙ ap (weights_behind all) c.in-Some.ensures.words
    ∙ no_weight all c.in-Some.word.now (words c.in-Some.behind.now) (sym c.in_err-weight.ensures) in
    fails_seen _ c.from_residual.result reading c.from_residual.ensures.1

pub loop-word-preserved : goal.loop-word-preserved
loop-word-preserved c =
    let all = c.loop-word.weights in
    let ws = words c.in-Some.behind.now in
    ap (λ more. weights_behind more ws) c.in_ok-push.ensures.ok
    ∙ sym (one_weight_more all c.in-Some.word.now ws c.in_ok-weight.field-0 (sym c.in_ok-weight.ensures))
    ∙ ap (weights_behind all) (sym c.in-Some.ensures.words) ∙ c.loop-word.invariant

pub returns : goal.returns
returns c =
    let all = c.loop-word.weights in
    line_value (sym c.loop-word.invariant ∙ ap (weights_behind all) c.in_default.ensures.words ∙ no_weight_more all)
