use Rattle.std.proofs.Common.{◌∙◌, ◌++◌, ◌∷◌, [], ℕ, List, map, sym, ap}
use Rattle.std.proofs.lemmas.List.{map-append}
use Rattle.serde_json.specs.Data.{Data}
use Rattle.serde_json.specs.View.{view}
use Rattle.vr_model.specs.schedules.Lines.{line}
use Rattle.vr_model.specs.tables.ModelRules.{has_breaks}
use Rattle.vr_model.specs.tables.Tables.{dimension_at, no_dimension}
use Rattle.vr_printed.specs.Printed.{plan_of}
use Rattle.vr_printed.specs.Shape.{no_printed_plan}
use Rattle.vr_app.specs.Spans.{span_row}
use Rattle.vr_app.specs.Scheduled.{printed_plans}
use Rattle.vr_app.proofs.SpanLemmas.{one-row}
use Rattle.vr_app.proofs.spans.push_row.Goals as goal

pub returns-in_ok-push : goal.returns-in_ok-push
returns-in_ok-push c =
    let model = c.args.closed.model.now in
    let d = c.args.d in
    let list : List ℕ = c.args.list.now in
    let plans = printed_plans c.args.route.now in
    let before : List Data = map view c.args.rows.now.items in
    let none = ap has_breaks (c.get.ensures.value no_dimension) ∙ (sym c.has_breaks.ensures ∙ c.if-not-has_breaks.true) in
    let printed = ap plan_of (sym (c.get-then-not-has_breaks.ensures.value no_printed_plan)) in
    let row = c.in_ok-row.ensures ∙ ap (span_row (dimension_at model d) c.args.v (line model d c.args.v list)) printed in
    ap (map view) c.in_ok-push.ensures.items
    ∙ map-append view c.args.rows.now.items (c.in_ok-row.row ∷ [])
    ∙ ap (λ tree. before ++ tree ∷ []) row
    ∙ ap (λ rows. before ++ rows) (sym (one-row model c.args.v d list plans none))
