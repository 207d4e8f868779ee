use Rattle.std.proofs.Common.{◌∙◌, ap}
use Rattle.vr_model.specs.first.Items.{pair_of}
use Rattle.vr_lns.proofs.leaving.pair_of.Goals as goal

pub returns : goal.returns
returns c = c.pair_of.ensures ∙ ap (λ model. pair_of model c.args.node) c.nodes.ensures
