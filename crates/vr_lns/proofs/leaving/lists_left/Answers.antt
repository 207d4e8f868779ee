use Rattle.std.proofs.Common.{◌≡◌, ◌∙◌, ◌<◌, ◌++◌, [], ◌∷◌, ap, ap₂, sym, length, arith}
use Rattle.vr_model.specs.routes.Routes.{route}
use Rattle.vr_lns.specs.Cuts.{cut_chain, without_chain}
use Rattle.vr_lns.proofs.LeftLemmas.{left_more}
use Rattle.vr_lns.proofs.leaving.lists_left.Goals as goal

pub loop-v-preserved : goal.loop-v-preserved
loop-v-preserved c =
    let lists = c.args.cut.now.routes.now.lists in
    let f = without_chain c.args.cut.now.lookups.now.closed.model.now (cut_chain c.args.cut.now.most lists c.args.cut.now.at) in
    let low : c.loop-v.v < length lists = omega (arith, c.loop-v-test.true, c.vehicles-v-end.ensures.value) in
    let list : c.in_ok-list.list ≡ f (route lists c.loop-v.v) = c.in_ok-list.ensures ∙ ap f c.list.ensures.value in
    c.in_ok-push.ensures.items ∙ ap₂ (λ front l. front ++ l ∷ []) c.loop-v.invariant list ∙ sym (left_more f lists c.loop-v.v low)
