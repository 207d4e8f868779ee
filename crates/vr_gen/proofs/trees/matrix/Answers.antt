use Rattle.std.proofs.Common.{◌∙◌, ap, map}
use Rattle.std.proofs.lemmas.List.{take_all}
use Rattle.serde_json.specs.Data.{array}
use Rattle.serde_json.specs.View.{items_of}
use Rattle.serde_json.proofs.Views.{view-Array}
use Rattle.vr_gen.specs.Generated.{row}
use Rattle.vr_gen.proofs.trees.matrix.Goals as goal

pub returns : goal.returns
returns c =
    let all = take_all c.loop-from.from-index c.args.sites.now c.loop-from-test.false in
    view-Array c.loop-from.rows ∙ ap (λ trees. array (items_of trees)) (c.loop-from.invariant ∙ ap (map (row c.args.sites.now)) all)
