use Rattle.std.proofs.Common.{◌∙◌, ap}
use Rattle.vr_lists.specs.Nodes.{group_number}
use Rattle.vr_lists.proofs.NodeLemmas.{group_kept}
use Rattle.vr_lists.proofs.nodes.NodeTables.group_number.Goals as goal

pub returns : goal.returns
returns c =
    let kept = c.self.inside in
    c.number_or.ensures ∙ group_kept kept.model.now kept.groups kept.pairs kept.rows kept.marks c.self.invariant c.args.node c.len.result c.len.ensures
    ∙ ap (λ model. group_number model c.args.node) c.self.view_is
