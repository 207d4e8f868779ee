use Rattle.std.proofs.Common.{◌≡◌, ◌∙◌, length, subst, rules}
use Rattle.std.specs.Prelude.{IfSome}
use Rattle.std.specs.Bool.{then_some}
use Rattle.std.proofs.lemmas.Result.{IfOk-weaker}
use Rattle.vr_model.specs.declared.records.ScheduleRule.TheVariants.{Tight}
use Rattle.vr_plan.specs.Ends.{IsTightLineOf}
use Rattle.vr_plan.specs.Plans.{AreChosenCumulsUnder}
use Rattle.vr_plan.specs.Settled.{Goes}
use Rattle.vr_plan.proofs.RuleLemmas.{no_cumuls}
use Rattle.vr_plan.proofs.choosers.Chooser.choose_tight.Goals as goal

pub returns-in_default-clause-chosen : goal.returns-in_default-clause-chosen
returns-in_default-clause-chosen c = no_cumuls c.args.sound.line.now c.args.sound.sound Tight (c.in_ok-narrow.ensures.none (search rules))

pub returns-clause-chosen : goal.returns-clause-chosen
returns-clause-chosen c = IfOk-weaker _ _ (λ goes. AreChosenCumulsUnder Tight c.args.sound.line.now (then_some goes c.choose_earliest.new.self))
    (λ _ chosen defined of. chosen _ (subst (λ found. IfSome found (IsTightLineOf c.args.sound.line.now)) c.in-Some.is c.in_ok-narrow.ensures.some defined of))
    c.choose_earliest.ensures.chosen

pub returns-clause-stops : goal.returns-clause-stops
returns-clause-stops c =
    let same = subst (λ found. IfSome found (λ narrow. length narrow.allowed ≡ length c.args.sound.line.now.allowed))
    c.in-Some.is c.in_ok-narrow.ensures.stops in
    IfOk-weaker _ _ (Goes (length c.choose_earliest.new.self ≡ length c.args.sound.line.now.allowed))
    (λ _ stops goes. stops goes ∙ same) c.choose_earliest.ensures.stops
