use Rattle.std.proofs.Common.{◌∙◌, [], subst, arith}
use Rattle.vr_lists.specs.Nodes.{AreNodeTables}
use Rattle.vr_lists.proofs.NodeLemmas.{row_allows, free_node}
use Rattle.vr_lists.proofs.nodes.NodeTables.allows_vehicle.Goals as goal

pub returns-then-row-len : goal.returns-then-row-len
returns-then-row-len c =
    let kept = c.self.inside in
    let are = subst (λ model. AreNodeTables model kept.groups kept.pairs kept.rows kept.marks) c.self.view_is c.self.invariant in
    c.is_marked.ensures
    ∙ row_allows c.args.self.now kept.groups kept.pairs kept.rows kept.marks are c.args.v
    c.args.node c.row_number-row.result c.get.result.now c.row_number-row.ensures
    (omega (arith, c.if-row-len.true, c.len.ensures)) (c.get.ensures.value [])

pub returns : goal.returns
returns c =
    let kept = c.self.inside in
    let are = subst (λ model. AreNodeTables model kept.groups kept.pairs kept.rows kept.marks) c.self.view_is c.self.invariant in
    free_node c.args.self.now kept.groups kept.pairs kept.rows kept.marks are c.args.v c.args.node c.row_number-row.result c.row_number-row.ensures
    (omega (arith, c.if-row-len.false, c.len.ensures))
