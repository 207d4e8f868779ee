use Rattle.std.proofs.Common.{◌∙◌, ◌++◌, [], sym, ap}
use Rattle.std.proofs.lemmas.List.{get_or_default}
use Rattle.vr_model.specs.routes.Routes.{route}
use Rattle.vr_model.specs.tables.Numbers.{below, each}
use Rattle.vr_printed.specs.Printed.{assignment_of, no_route}
use Rattle.vr_app.specs.Spans.{span_rows, spans_with}
use Rattle.vr_app.specs.Scheduled.{printed_plans}
use Rattle.vr_app.proofs.SpanLemmas.{few_routes, read_low, read_scheduled, rows_are, rows_more}
use Rattle.vr_app.proofs.spans.rows_of.Goals as goal

pub overflow_cast-v : goal.overflow_cast-v
overflow_cast-v c = record {
  fits = few_routes c.args.closed.model.now c.args.routes.now c.args.lists.now c.loop-v.v
      c.args.closed.well_formed c.requires.scheduled c.requires.lists c.loop-v-test.true;
}

pub push_rows-requires : goal.push_rows-requires
push_rows-requires c =
    let routes = c.args.routes.now in
    let lists = c.args.lists.now in
    let v = c.loop-v.v in
    let low = c.loop-v-test.true in
    let r_is = c.index-routes-v.is
    ∙ get_or_default routes v c.index-routes-v.result no_route (read_low c.args.closed.model.now routes lists v c.requires.lists low) in
    let list_is = c.as_slice.ensures ∙ (c.index-lists-v.is ∙ get_or_default lists v c.index-lists-v.result [] low) in
    read_scheduled c.args.closed.model.now routes lists v c.requires.scheduled c.requires.lists low c.index-routes-v.result c.as_slice.result.now r_is list_is

pub loop-v-preserved : goal.loop-v-preserved
loop-v-preserved c =
    let model = c.args.closed.model.now in
    let routes = c.args.routes.now in
    let lists = c.args.lists.now in
    let v = c.loop-v.v in
    let low = c.loop-v-test.true in
    let r_is = c.index-routes-v.is ∙ get_or_default routes v c.index-routes-v.result no_route (read_low model routes lists v c.requires.lists low) in
    let list_is = c.as_slice.ensures ∙ (c.index-lists-v.is ∙ get_or_default lists v c.index-lists-v.result [] low)
    ∙ ap (λ lists. route lists v) c.requires.lists in
    let row = span_rows model (assignment_of routes) in
    c.in_ok-push_rows.ensures
    ∙ ap (λ rows. rows ++ spans_with model v c.as_slice.result.now (printed_plans c.index-routes-v.result)) c.loop-v.invariant
    ∙ ap (λ rows. each (below v) row ++ rows) (rows_are model routes v c.index-routes-v.result c.as_slice.result.now r_is list_is)
    ∙ sym (rows_more model (assignment_of routes) v)
