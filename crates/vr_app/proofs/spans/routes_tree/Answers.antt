use Rattle.std.proofs.Common.{◌∙◌, ap}
use Rattle.std.proofs.lemmas.Result.{IfOk-weaker}
use Rattle.vr_app.specs.Spans.{spans_tree, reported_spans}
use Rattle.vr_app.proofs.spans.routes_tree.Goals as goal

pub returns : goal.returns
unfolding spans_tree
returns c = IfOk-weaker c.reported_spans.result _ _ (λ tree is. is ∙ ap reported_spans c.in_ok-rows.ensures) c.reported_spans.ensures
