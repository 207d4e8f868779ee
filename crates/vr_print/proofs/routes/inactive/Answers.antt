use Rattle.std.proofs.Common.{◌∙◌, ◌++◌, ◌&&◌, ◌∷◌, [], Bool, ℕ, ap, sym, cond, not}
use Rattle.vr_model.specs.routes.Routes.{is_active}
use Rattle.vr_model.specs.tables.Tables.{is_visit}
use Rattle.vr_print.proofs.TreeLemmas.{filter-below_more}
use Rattle.vr_print.proofs.routes.inactive.Goals as goal

pub loop-node-preserved : goal.loop-node-preserved
loop-node-preserved c =
    let is_left : ℕ → Bool = λ node. not (is_active c.args.routes.now.lists node) in
    let visits : ℕ → Bool = is_visit c.args.model.now in
    let n = c.loop-node.node in
    c.in_ok-note_inactive.ensures ∙ ap (λ xs. xs ++ cond (visits n && is_left n) (n ∷ []) []) c.loop-node.invariant
    ∙ sym (filter-below_more is_left visits n)
