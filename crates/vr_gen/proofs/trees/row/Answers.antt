use Rattle.std.proofs.Common.{◌∙◌, ap, map}
use Rattle.std.proofs.lemmas.List.{take_all}
use Rattle.serde_json.specs.Data.{array}
use Rattle.serde_json.specs.View.{items_of}
use Rattle.serde_json.proofs.Views.{view-Array}
use Rattle.vr_gen.specs.Generated.{distance_entry}
use Rattle.vr_gen.proofs.trees.row.Goals as goal

pub returns : goal.returns
returns c =
    let all = take_all c.loop-to.to-index c.args.sites.now c.loop-to-test.false in
    view-Array c.loop-to.entries ∙ ap (λ trees. array (items_of trees)) (c.loop-to.invariant ∙ ap (map (distance_entry c.args.from)) all)
