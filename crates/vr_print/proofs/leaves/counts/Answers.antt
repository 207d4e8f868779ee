use Rattle.std.proofs.Common.{◌∙◌, ap, map}
use Rattle.std.proofs.lemmas.List.{take_all}
use Rattle.serde_json.specs.Data.{array}
use Rattle.serde_json.specs.View.{items_of}
use Rattle.serde_json.proofs.Views.{view-Array}
use Rattle.vr_json.specs.Trees.{count}
use Rattle.vr_print.proofs.leaves.counts.Goals as goal

pub returns : goal.returns
returns c =
    let all = take_all c.loop-node.node-index c.args.nodes.now c.loop-node-test.false in
    view-Array c.loop-node.items ∙ ap (λ trees. array (items_of trees)) (c.loop-node.invariant ∙ ap (map count) all)
