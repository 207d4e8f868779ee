use Rattle.std.proofs.Common.{◌∙◌, sym}
use Rattle.vr_check.proofs.PlanSums.{span_is}
use Rattle.vr_check.proofs.Widths.{wide}
use Rattle.vr_check.proofs.totals.span_of.Goals as goal

pub returns : goal.returns
returns c =
    let of = c.args.solution.now in
    wide c.over_routes.result c.over_routes.type_inv ∙ c.over_routes.ensures ∙ sym (span_is of.closed.model.now of.routes.now of.sound.shaped)
