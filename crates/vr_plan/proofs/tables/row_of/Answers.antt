use Rattle.std.proofs.Common.{◌∙◌, ap, get_or}
use Rattle.std.specs.Prelude.{slice_get}
use Rattle.vr_plan.proofs.TableLemmas.{found_at, item_at}
use Rattle.vr_plan.proofs.tables.row_of.Goals as goal

pub returns-clause-value : goal.returns-clause-value
returns-clause-value c =
    let rows = c.args.rows.now in
    let node = c.args.node in
    item_at _ _ c.get.result c.get.ensures.lookup ∙ ap (λ xs. slice_get xs (get_or c.args.places.now node 0)) c.as_slice.ensures
    ∙ ap (slice_get rows) (c.requires.places.each node 0 c.requires.node) ∙ found_at (λ row. row.key) rows node
