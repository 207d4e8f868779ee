use Rattle.std.proofs.Common.{subst, sym}
use Rattle.std.proofs.lemmas.List.{take_rest}
use Rattle.std.specs.Prelude.{OnOk}
use Rattle.vr_steps.specs.Ways.{IsBegunBy}
use Rattle.vr_steps.proofs.ends.write_level.Goals as goal

pub returns-in-Back : goal.returns-in-Back
returns-in-Back c = subst (λ way. OnOk c.write_after.result (IsBegunBy way c.args.allowed.now c.args.rows.now c.args.b c.write_after.new.set))
    (sym c.in-Back.is) (rw (take_rest c.args.rows.now c.args.b) at c.write_after.ensures)
