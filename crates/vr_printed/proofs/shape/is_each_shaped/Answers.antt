use Rattle.std.proofs.Common.{length, sym, ap, ◌∙◌}
use Rattle.std.proofs.lemmas.List.{get_or_default}
use Rattle.vr_printed.specs.Printed.{no_route}
use Rattle.vr_printed.specs.Shape.{is_route_shaped, is_shaped_at}
use Rattle.vr_model.proofs.tables.Ranges.{all_go_on, all_stop}
use Rattle.vr_printed.proofs.shape.is_each_shaped.Goals as goal

pub loop-v-preserved : goal.loop-v-preserved
loop-v-preserved c = all_go_on (is_shaped_at c.args.model.now c.args.routes.now) (length c.args.routes.now) c.loop-v.v c.loop-v.invariant c.loop-v-test.true
    (ap (is_route_shaped c.args.model.now c.loop-v.v)
    (get_or_default c.args.routes.now c.loop-v.v no_route c.index-routes-v.result c.loop-v-test.true ∙ sym c.index-routes-v.is)
    ∙ sym c.is_route_shaped.ensures ∙ c.if-not-is_route_shaped.false)

pub returns-then-not-is_route_shaped : goal.returns-then-not-is_route_shaped
returns-then-not-is_route_shaped c =
    all_stop (is_shaped_at c.args.model.now c.args.routes.now) (length c.args.routes.now) c.loop-v.v c.loop-v.invariant c.loop-v-test.true
    (ap (is_route_shaped c.args.model.now c.loop-v.v)
    (get_or_default c.args.routes.now c.loop-v.v no_route c.index-routes-v.result c.loop-v-test.true ∙ sym c.index-routes-v.is)
    ∙ sym c.is_route_shaped.ensures ∙ c.if-not-is_route_shaped.true)
