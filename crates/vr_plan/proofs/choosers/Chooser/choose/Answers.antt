use Rattle.std.proofs.Common.{sym, subst}
use Rattle.std.specs.Prelude.{IfOk}
use Rattle.std.specs.Bool.{then_some}
use Rattle.vr_plan.specs.Plans.{AreChosenCumulsUnder}
use Rattle.vr_plan.proofs.choosers.Chooser.choose.Goals as goal

pub returns-in-Tight-clause-chosen : goal.returns-in-Tight-clause-chosen
returns-in-Tight-clause-chosen c =
    subst (λ rule. IfOk c.choose_tight.result (λ goes. AreChosenCumulsUnder rule c.args.line.now (then_some goes c.choose_tight.new.self)))
    (sym c.in-Tight.is) c.choose_tight.ensures.chosen
