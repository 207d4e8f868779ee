use Rattle.std.proofs.Common.{◌∙◌, sym}
use Rattle.vr_check.proofs.PlanSums.{soft_is}
use Rattle.vr_check.proofs.Widths.{wide}
use Rattle.vr_check.proofs.totals.soft_of.Goals as goal

pub returns : goal.returns
returns c =
    let of = c.args.solution.now in
    wide c.over_routes.result c.over_routes.type_inv ∙ c.over_routes.ensures ∙ sym (soft_is of.closed.model.now of.routes.now of.sound.shaped)
