use Rattle.std.proofs.Common.{◌∙◌, sym, ap, subst}
use Rattle.std.proofs.lemmas.Result.{IfOk-weaker}
use Rattle.serde_json.specs.View.{view}
use Rattle.vr_printed.specs.Printed.{assignment_of}
use Rattle.vr_app.specs.Scheduled.{AreScheduled}
use Rattle.vr_app.specs.Spans.{printed_assignment, spans_of, spans_tree}
use Rattle.vr_app.proofs.SpanLemmas.{printed_scheduled, printed_some}
use Rattle.vr_app.proofs.spans.spans_tree.Goals as goal

pub unwrap-printed-requires : goal.unwrap-printed-requires
unwrap-printed-requires c = printed_some c.args.closed.model.now (view c.args.solution.now) c.args.closed.well_formed c.requires _ c.in_ok-read_printed.ensures

pub routes_tree-requires : goal.routes_tree-requires
routes_tree-requires c =
    subst (AreScheduled c.args.closed.model.now) (sym c.as_slice.ensures)
    (printed_scheduled c.args.closed.model.now (view c.args.solution.now) c.args.closed.well_formed
    c.requires c.unwrap-printed.result (sym c.in_ok-read_printed.ensures ∙ c.unwrap-printed.ensures))

pub returns : goal.returns
unfolding spans_of
returns c =
    let is = sym c.unwrap-printed.ensures ∙ c.in_ok-read_printed.ensures in
    IfOk-weaker c.routes_tree.result _ _ (λ tree same. same ∙ ap (λ routes. spans_tree c.args.closed.model.now (assignment_of routes)) c.as_slice.ensures
    ∙ ap (λ o. spans_tree c.args.closed.model.now (printed_assignment o)) is) c.routes_tree.ensures
