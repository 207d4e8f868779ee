use Rattle.std.proofs.Common.{◌≡◌, List, ℤ, ◌-◌, ◌-ℤ◌, length, sym, ap, ◌∙◌, arith, w64, to_z, of_z}
use Rattle.std.proofs.lemmas.Int.{ints}
use Rattle.std.proofs.lemmas.Result.{IfOk-weaker}
use Rattle.serde_json.specs.View.{view}
use Rattle.vr_model.specs.schedules.Lines.{Line, line}
use Rattle.vr_model.specs.tables.Numbers.{number_at}
use Rattle.vr_model.specs.tables.Tables.{dimension_at, no_dimension}
use Rattle.vr_plan.specs.Plans.{as_defined}
use Rattle.vr_printed.specs.Printed.{plan_of}
use Rattle.vr_app.specs.Shortest.{span_high, span_low}
use Rattle.vr_app.proofs.SpanLemmas.{line_stops_behind, no-breaks, row_is, span_is}
use Rattle.vr_app.proofs.spans.row.Goals as goal

pub shortest-requires-clause-no_breaks : goal.shortest-requires-clause-no_breaks
shortest-requires-clause-no_breaks c =
    c.in_ok-line.ensures.exact.breaks ∙ no-breaks (dimension_at c.args.closed.model.now c.args.d) c.requires.no_breaks c.args.v

pub returns : goal.returns
returns c =
    let model = c.args.closed.model.now in
    let its : Line = line model c.args.d c.args.v c.args.list.now in
    let short = c.in_ok-least.ensures its c.in_ok-line.ensures.exact in
    let took = c.span_between-printed.ensures
    ∙ ap (λ (cumuls : List ℤ). number_at cumuls (length cumuls - 1) -ℤ number_at cumuls 0) c.as_slice.ensures
    ∙ span_is its (plan_of c.args.plan.now) (line_stops_behind model c.args.d c.args.v c.args.list.now) c.requires.schedule in
    let low = span_low its (plan_of c.args.plan.now) c.requires.schedule in
    let high = span_high its (plan_of c.args.plan.now) c.requires.schedule in
    let same : to_z w64 (of_z w64 c.span_between-printed.result) ≡ c.span_between-printed.result = omega (arith, ints, took, low, high) in
    IfOk-weaker c.span_tree.result _ _ (λ tree is. row_is _ _ c.args.v its (plan_of c.args.plan.now) (as_defined c.in_ok-least.least.plan) _ _ (view tree) is
    (sym (c.get.ensures.value no_dimension)) short.plan_is short.span_is (same ∙ took)) c.span_tree.ensures
