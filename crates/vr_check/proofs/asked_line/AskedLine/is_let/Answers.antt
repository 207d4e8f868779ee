use Rattle.std.proofs.Common.{◌≡◌, ◌∙◌, ap, ap₂, ℤ, Option}
use Rattle.vr_model.specs.tables.Numbers.{number_at}
use Rattle.vr_model.specs.schedules.Lines.{stop_allows}
use Rattle.vr_model.specs.declared.records.StopRow.{StopRow}
use Rattle.vr_check.specs.Asked.{row_at_stop}
use Rattle.vr_check.proofs.Widths.{narrow, read64}
use Rattle.vr_check.proofs.asked_line.AskedLine.is_let.Goals as goal

pub returns : goal.returns
returns c =
    let it = c.args.self.now in
    let same : read64 c.args.x ≡ c.args.x = narrow c.args.x c.ranges.x.sfits in
    let capacity = narrow c.capacity_of-capacity.result c.capacity_of-capacity.type_inv
    ∙ c.capacity_of-capacity.ensures ∙ ap (λ dimension. number_at dimension.capacities it.v) c.dimension.ensures in
    let at = λ (row : Option StopRow) (bound x : ℤ). stop_allows bound row x in
    c.stop_lets.ensures ∙ ap (λ row. at row (read64 c.capacity_of-capacity.result) (read64 c.args.x)) c.row.ensures.value
    ∙ ap₂ (at (row_at_stop it c.args.k)) capacity same
