use Rattle.std.proofs.Common.{Bool, Result, Ok, Err}
use Rattle.std.specs.Prelude.{IfOk}
use Rattle.std.specs.Bool.{then_some}
use Rattle.vr_plan.specs.Plans.{AreChosenCumuls}
use Rattle.vr_plan.proofs.PlanLemmas.{chosen_numbers}
use Rattle.vr_plan.proofs.choosers.Chooser.choose_earliest.Goals as goal

-- what two facts of an answer give
of_both : {E : Type 0} (r : Result Bool E) (P Q R : Bool → Type 0) → ((x : Bool) → P x → Q x → R x) → IfOk r P → IfOk r Q → IfOk r R
of_both (Ok x) P Q R next p q = next x p q
of_both (Err e) P Q R next p q = tt

pub returns-clause-chosen : goal.returns-clause-chosen
returns-clause-chosen c =
    of_both c.settle.result _ _ (λ goes. AreChosenCumuls c.args.sound.line.now (then_some goes c.settle.new.cumuls))
    (λ goes. chosen_numbers c.args.sound.line.now goes c.settle.new.cumuls) c.settle.ensures.settled c.settle.ensures.stops
