use Rattle.std.proofs.Common.{◌∙◌, ◌++◌, ◌∷◌, [], List, map, sym, ap}
use Rattle.std.proofs.lemmas.List.{append_assoc}
use Rattle.serde_json.specs.Data.{Data}
use Rattle.serde_json.specs.View.{view}
use Rattle.vr_model.specs.tables.Numbers.{below}
use Rattle.vr_app.specs.Spans.{spans_in}
use Rattle.vr_app.specs.Scheduled.{printed_plans}
use Rattle.vr_app.proofs.SpanLemmas.{spans_more}
use Rattle.vr_app.proofs.spans.push_used.Goals as goal

pub loop-d-preserved : goal.loop-d-preserved
loop-d-preserved c =
    let model = c.args.closed.model.now in
    let plans = printed_plans c.args.route.now in
    let list = c.args.list.now in
    let d = c.loop-d.d in
    let begun : List Data = map view c.args.rows.now.items in
    let next = spans_in model c.args.v list plans (d ∷ []) in
    c.in_ok-push_row.ensures ∙ ap (λ rows. rows ++ next) c.loop-d.invariant
    ∙ append_assoc begun (spans_in model c.args.v list plans (below d)) next
    ∙ ap (λ rows. begun ++ rows) (sym (spans_more model c.args.v list plans d))
