use Rattle.std.proofs.Common.{length, sym, ap, ◌∙◌}
use Rattle.vr_check.specs.Plans.{route_broken, route_broken_at}
use Rattle.vr_check.proofs.Firsts.{found, passed_by}
use Rattle.vr_check.proofs.plans.wrong_routes.Goals as goal

pub loop-v-preserved : goal.loop-v-preserved
loop-v-preserved c =
    let of = c.args.solution.now in
    passed_by (route_broken_at c.args.rule of.closed.model.now of.routes.now) (length of.routes.now) c.loop-v.v c.loop-v.invariant c.loop-v-test.true
    (c.wrong_route-spot.ensures ∙ ap (λ it. route_broken c.args.rule it.model it.v it.printed) c.route-on.ensures) (sym c.is_some.ensures ∙ c.if-is_some.false)

pub returns-then-is_some : goal.returns-then-is_some
returns-then-is_some c =
    let of = c.args.solution.now in
    found (route_broken_at c.args.rule of.closed.model.now of.routes.now) (length of.routes.now) c.loop-v.v c.loop-v.invariant c.loop-v-test.true
    (c.wrong_route-spot.ensures ∙ ap (λ it. route_broken c.args.rule it.model it.v it.printed) c.route-on.ensures) (sym c.is_some.ensures ∙ c.if-is_some.true)
