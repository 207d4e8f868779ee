use Rattle.std.proofs.Common.{length, sym, ap, ◌∙◌}
use Rattle.std.proofs.lemmas.List.{get_or_default}
use Rattle.vr_check.specs.Lists.{ends_broken_in}
use Rattle.vr_check.proofs.Firsts.{found, passed_by}
use Rattle.vr_check.specs.Lists.{ends_broken_of}
use Rattle.vr_printed.specs.Printed.{no_route}
use Rattle.vr_check.proofs.lists.wrong_ends.Goals as goal

pub loop-v-preserved : goal.loop-v-preserved
loop-v-preserved c = passed_by (ends_broken_in c.args.closed.model.now c.args.routes.now) (length c.args.routes.now) c.loop-v.v c.loop-v.invariant
    c.loop-v-test.true (c.wrong_node-spot.ensures ∙ ap (ends_broken_of c.args.closed.model.now c.loop-v.v)
    (c.as_slice.ensures ∙ ap (λ route. route.nodes) (get_or_default c.args.routes.now c.loop-v.v c.index-routes-v.result no_route c.loop-v-test.true)))
    (sym c.is_some.ensures ∙ c.if-is_some.false)

pub returns-then-is_some : goal.returns-then-is_some
returns-then-is_some c = found (ends_broken_in c.args.closed.model.now c.args.routes.now) (length c.args.routes.now) c.loop-v.v c.loop-v.invariant
    c.loop-v-test.true (c.wrong_node-spot.ensures ∙ ap (ends_broken_of c.args.closed.model.now c.loop-v.v)
    (c.as_slice.ensures ∙ ap (λ route. route.nodes) (get_or_default c.args.routes.now c.loop-v.v c.index-routes-v.result no_route c.loop-v-test.true)))
    (sym c.is_some.ensures ∙ c.if-is_some.true)
