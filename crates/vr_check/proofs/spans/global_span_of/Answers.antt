use Rattle.std.proofs.Common.{◌∙◌, ◌<◌, ◌+◌, length, sym, ap, subst}
use Rattle.std.specs.Prelude.{filter}
use Rattle.std.proofs.lemmas.List.{get_or_default}
use Rattle.vr_model.specs.tables.Numbers.{from_to}
use Rattle.vr_printed.specs.Printed.{no_route, assignment_of}
use Rattle.vr_printed.specs.Shape.{plan_in}
use Rattle.vr_printed.specs.declared.printed.PrintedRoute.{PrintedRoute}
use Rattle.vr_check.specs.Terms.{ends_with}
use Rattle.vr_check.proofs.Widths.{wide}
use Rattle.vr_check.proofs.PlanSums.{is_used, span_from, span_begins, span_next, span_done, cumuls_there}
use Rattle.vr_check.proofs.spans.global_span_of.Goals as goal

pub loop-v-init : goal.loop-v-init
loop-v-init c = span_begins c.args.solution.now.closed.model.now c.args.solution.now.routes.now c.args.solution.now.sound.shaped c.args.d

pub ends_with-ends-requires : goal.ends_with-ends-requires
ends_with-ends-requires c =
    let HasCumuls = λ (route : PrintedRoute). c.args.d < length route.plans → 0 < length (plan_in route c.args.d).cumuls in
    subst HasCumuls (get_or_default c.args.solution.now.routes.now c.loop-v.v no_route c.index-routes-v.result c.loop-v-test.true ∙ sym c.index-routes-v.is)
    (λ less. cumuls_there c.args.solution.now.closed.model.now c.args.solution.now.routes.now
    c.args.solution.now.sound.shaped c.args.d c.loop-v.v c.loop-v-test.true less)

pub loop-v-preserved : goal.loop-v-preserved
loop-v-preserved c =
    let route = c.index-routes-v.is ∙ get_or_default c.args.solution.now.routes.now c.loop-v.v c.index-routes-v.result no_route c.loop-v-test.true in
    ap (λ ends. span_from (assignment_of c.args.solution.now.routes.now) c.args.d ends
    (filter (is_used c.args.solution.now.routes.now) (from_to (c.loop-v.v + 1) (length c.args.solution.now.routes.now))))
    (c.ends_with-ends.ensures ∙ ap (ends_with c.args.d c.loop-v.ends) route)
    ∙ span_next c.args.solution.now.closed.model.now c.args.solution.now.routes.now
    c.args.solution.now.sound.shaped c.args.d c.loop-v.v c.loop-v-test.true c.requires.dimension c.loop-v.ends
    ∙ c.loop-v.invariant

pub returns-clause-value : goal.returns-clause-value
returns-clause-value c =
    wide c.span_of_ends.result c.span_of_ends.type_inv
    ∙ c.span_of_ends.ensures.value
    ∙ sym (span_done c.args.solution.now.closed.model.now c.args.solution.now.routes.now
    c.args.solution.now.sound.shaped c.args.d c.loop-v.v c.loop-v-test.false c.loop-v.ends)
    ∙ c.loop-v.invariant
