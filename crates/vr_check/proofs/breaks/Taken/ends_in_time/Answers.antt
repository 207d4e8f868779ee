use Rattle.std.proofs.Common.{◌≡◌, ◌+◌, suc, ◌∙◌, ap, ap₂, arith}
use Rattle.std.specs.Prelude.{int_le}
use Rattle.vr_model.specs.schedules.Schedules.{break_start}
use Rattle.vr_check.specs.Breaks.{plan_of_taken}
use Rattle.vr_check.proofs.Widths.{narrow, wide}
use Rattle.vr_check.proofs.breaks.Taken.ends_in_time.Goals as goal

pub returns : goal.returns
returns c =
    let next : c.args.i + 1 ≡ suc c.args.i = omega arith in
    ap₂ int_le (wide c.end.result c.end.type_inv ∙ c.end.ensures) (wide c.from.result c.from.type_inv ∙ c.from.ensures
    ∙ narrow c.start.result c.start.type_inv ∙ c.start.ensures ∙ ap (break_start (plan_of_taken c.args.self.now)) next)
