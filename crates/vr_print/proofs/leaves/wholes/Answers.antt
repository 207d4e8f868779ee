use Rattle.std.proofs.Common.{◌∙◌, ap, map}
use Rattle.std.proofs.lemmas.List.{take_all}
use Rattle.serde_json.specs.Data.{array}
use Rattle.serde_json.specs.View.{items_of}
use Rattle.serde_json.proofs.Views.{view-Array}
use Rattle.vr_print.specs.Numbers.{whole}
use Rattle.vr_print.proofs.leaves.wholes.Goals as goal

pub returns : goal.returns
returns c =
    let all = take_all c.loop-value.value-index c.args.values.now c.loop-value-test.false in
    view-Array c.loop-value.items ∙ ap (λ trees. array (items_of trees)) (c.loop-value.invariant ∙ ap (map whole) all)
