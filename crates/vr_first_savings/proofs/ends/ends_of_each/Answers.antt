use Rattle.std.proofs.Common.{◌∙◌, ◌++◌, ◌∷◌, [], ap, sym}
use Rattle.std.specs.Prelude.{map}
use Rattle.std.proofs.lemmas.List.{map_more, take_all}
use Rattle.vr_first_savings.specs.RouteEnds.{ends_of}
use Rattle.vr_first_savings.proofs.ends.ends_of_each.Goals as goal

pub loop-i-preserved : goal.loop-i-preserved
loop-i-preserved c =
    let model = c.args.closed.model.now in
    let routes = c.args.routes.now in
    c.in_ok-push.ensures.items ∙ (λ t. c.loop-i.invariant t ++ c.ends_at.ensures t ∷ [])
    ∙ sym (map_more (ends_of model) routes c.loop-i.i [] c.loop-i-test.true)

pub returns : goal.returns
returns c =
    let model = c.args.closed.model.now in
    let routes = c.args.routes.now in
    c.loop-i.invariant ∙ ap (map (ends_of model)) (take_all c.loop-i.i routes c.loop-i-test.false)
