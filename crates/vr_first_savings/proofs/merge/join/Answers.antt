use Rattle.std.proofs.Common.{◌∙◌, ◌++◌, ◌∷◌, [], not, ap}
use Rattle.std.specs.Prelude.{filter}
use Rattle.std.proofs.lemmas.List.{take_all}
use Rattle.vr_model.specs.first.SavingsJoins.{joined_route, is_part_of}
use Rattle.vr_first_savings.specs.Joins.{join_of}
use Rattle.vr_first_savings.proofs.MergeLemmas.{kept-more, read-item}
use Rattle.vr_first_savings.proofs.merge.join.Goals as goal

pub loop-route-init : goal.loop-route-init
loop-route-init c = c.in_ok-push.ensures.items ∙ (λ t. c.in_ok-after.ensures.items t ++ (c.from.ensures ∙ c.in_ok-joined.ensures) t ∷ [])

pub loop-route-preserved : goal.loop-route-preserved
loop-route-preserved c =
    let routes = c.args.routes.now in
    let choice = c.args.choice in
    kept-more (join_of routes choice) routes c.loop-route.route-index c.first_of-front.result
    c.first_of-back.result c.as_slice.result.now c.loop-route.after.items c.keep_other.new.kept.items
    c.loop-route-test.true
    (read-item routes c.loop-route.route-index c.as_slice.result.now c.route-item.result c.loop-route-test.true c.as_slice.ensures c.route-item.is)
    c.first_of-front.ensures c.first_of-back.ensures c.loop-route.invariant c.in_ok-keep_other.ensures

pub returns : goal.returns
returns c =
    let routes = c.args.routes.now in
    let join = join_of routes c.args.choice in
    c.loop-route.invariant
    ∙ ap (λ rs. joined_route join ∷ filter (λ list. not (is_part_of join list)) rs) (take_all c.loop-route.route-index routes c.loop-route-test.false)
