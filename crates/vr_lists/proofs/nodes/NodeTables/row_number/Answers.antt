use Rattle.std.proofs.Common.{◌∙◌, ap}
use Rattle.vr_lists.specs.Nodes.{row_number}
use Rattle.vr_lists.proofs.NodeLemmas.{row_kept}
use Rattle.vr_lists.proofs.nodes.NodeTables.row_number.Goals as goal

pub returns : goal.returns
returns c =
    let kept = c.self.inside in
    c.number_or.ensures ∙ row_kept kept.model.now kept.groups kept.pairs kept.rows kept.marks c.self.invariant c.args.node c.len.result c.len.ensures
    ∙ ap (λ model. row_number model c.args.node) c.self.view_is
