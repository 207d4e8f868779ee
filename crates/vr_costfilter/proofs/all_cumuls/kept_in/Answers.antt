use Rattle.std.proofs.Common.{◌≡◌, List, length}
use Rattle.std.proofs.lemmas.Result.{IfOk-weaker}
use Rattle.vr_model.specs.tables.Tables.{dimension_at}
use Rattle.vr_costfilter.specs.Kept.{IsPaid}
use Rattle.vr_costfilter.specs.declared.kept.KeptList.{KeptList}
use Rattle.vr_costfilter.proofs.all_cumuls.kept_in.Goals as goal

pub returns-clause-each : goal.returns-clause-each
returns-clause-each c =
    let lists = c.args.routes.now.lists in
    IfOk-weaker c.open.result (λ (kept : List KeptList). length kept ≡ length lists)
    (λ (kept : List KeptList). IsPaid c.args.paid c.args.table.now (dimension_at c.args.closed.model.now c.args.d) → length kept ≡ length lists)
    (λ kept same _. same) c.open.ensures.each
