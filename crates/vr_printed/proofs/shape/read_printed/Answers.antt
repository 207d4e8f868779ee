use Rattle.std.proofs.Common.{Err, sym, ap, ◌∙◌}
use Rattle.vr_printed.specs.Shape.{printed_in, where_shaped}
use Rattle.vr_printed.proofs.shape.read_printed.Goals as goal

pub returns-in-Ok : goal.returns-in-Ok
unfolding printed_in
returns-in-Ok c = c.shaped.ensures ∙ ap (where_shaped c.args.model.now) (sym c.in-Ok.ensures.value)

pub returns-in-Err-Refused : goal.returns-in-Err-Refused
unfolding printed_in
returns-in-Err-Refused c =
    ap (where_shaped c.args.model.now) (sym (c.in-Err-Refused.ensures.refused c.in-Err-Refused.field-0-0 (ap Err c.in-Err-Refused.field-0-is)))
