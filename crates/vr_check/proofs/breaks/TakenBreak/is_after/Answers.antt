use Rattle.std.proofs.Common.{◌∙◌, ap, ap₂}
use Rattle.std.specs.Prelude.{int_le}
use Rattle.vr_model.specs.schedules.Schedules.{cumul}
use Rattle.vr_check.specs.Breaks.{plan_of_taken}
use Rattle.vr_check.proofs.Widths.{narrow}
use Rattle.vr_check.proofs.breaks.TakenBreak.is_after.Goals as goal

pub returns : goal.returns
returns c =
    ap₂ int_le (narrow c.cumul_at.result c.cumul_at.type_inv ∙ c.cumul_at.ensures ∙ ap (cumul (plan_of_taken c.args.self.now.taken)) c.arcs.ensures.line)
    (narrow c.start.result c.start.type_inv ∙ c.start.ensures)
