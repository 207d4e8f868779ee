use Rattle.std.proofs.Common.{◌∙◌, ap₂}
use Rattle.vr_model.specs.tables.Numbers.{is_same_number}
use Rattle.vr_check.proofs.Widths.{narrow, wide, same_bits}
use Rattle.vr_check.proofs.plans.is_left.Goals as goal

pub returns : goal.returns
returns c = same_bits c.from.result c.left_over.result (wide c.from.result c.from.type_inv) (wide c.left_over.result c.left_over.type_inv)
    ∙ ap₂ is_same_number (c.from.ensures ∙ narrow c.slack_at.result c.slack_at.type_inv ∙ c.slack_at.ensures) c.left_over.ensures
