use Rattle.std.proofs.Common.{ℕ, Bool, sym, ap₂, ◌∙◌}
use Rattle.std.specs.Prelude.{◌&&◌, slice_index_or}
use Rattle.std.proofs.lemmas.List.Folds.{list_all_at, list_all_more}
use Rattle.vr_pathfilters.specs.Groups.{allows_node}
use Rattle.vr_pathfilters.proofs.GroupLemmas.{node-asked}
use Rattle.vr_pathfilters.proofs.groups.nodes_allow.Goals as goal

pub returns-then-not-allows : goal.returns-then-not-allows
returns-then-not-allows c =
    let f = c.args.filter.now in
    let p : ℕ → Bool = allows_node f.model.now f.numbers c.args.routes.now.lists f.balance in
    sym (list_all_at p c.args.nodes.now c.loop-node.node-index 0 c.loop-node-test.true
    (sym (node-asked f.model.now f.numbers c.args.routes.now.lists f.balance (slice_index_or c.args.nodes.now c.loop-node.node-index 0) c.number-g.ensures
    c.many_in_pieces-come.ensures.value c.come.ensures.value c.many_in_pieces-gone.ensures.value c.gone.ensures.value c.allows.ensures)
    ∙ c.if-not-allows.true))

pub loop-node-preserved : goal.loop-node-preserved
loop-node-preserved c =
    let f = c.args.filter.now in
    let p : ℕ → Bool = allows_node f.model.now f.numbers c.args.routes.now.lists f.balance in
    list_all_more p c.args.nodes.now c.loop-node.node-index 0 c.loop-node-test.true ∙ ap₂ (λ a b. a && b) c.loop-node.invariant
    (sym (node-asked f.model.now f.numbers c.args.routes.now.lists f.balance (slice_index_or c.args.nodes.now c.loop-node.node-index 0) c.number-g.ensures
    c.many_in_pieces-come.ensures.value c.come.ensures.value c.many_in_pieces-gone.ensures.value c.gone.ensures.value c.allows.ensures)
    ∙ c.if-not-allows.false)
