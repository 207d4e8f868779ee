use Rattle.std.proofs.Common.{◌≡◌, ◌∙◌, length, subst, rules}
use Rattle.std.specs.Prelude.{IfSome}
use Rattle.std.proofs.lemmas.Result.{IfOk-weaker}
use Rattle.vr_model.specs.declared.records.ScheduleRule.TheVariants.{Tight}
use Rattle.vr_plan.specs.declared.plans.Plan.{Plan}
use Rattle.vr_plan.specs.Ends.{IsTightLineOf}
use Rattle.vr_plan.specs.Plans.{IsChosenPlanUnder}
use Rattle.vr_plan.proofs.PlanLemmas.{some_weaker}
use Rattle.vr_plan.proofs.RuleLemmas.{none_chosen}
use Rattle.vr_plan.proofs.schedules.tight_ahead.Goals as goal

pub returns-in_default-clause-chosen : goal.returns-in_default-clause-chosen
returns-in_default-clause-chosen c = none_chosen c.args.sound.line.now c.args.sound.sound Tight (c.in_ok-narrow.ensures.none (search rules))

pub returns-clause-chosen : goal.returns-clause-chosen
returns-clause-chosen c = IfOk-weaker _ _ (IsChosenPlanUnder Tight c.args.sound.line.now)
    (λ _ chosen defined of. chosen _ (subst (λ found. IfSome found (IsTightLineOf c.args.sound.line.now)) c.in-Some.is c.in_ok-narrow.ensures.some defined of))
    c.earliest.ensures.chosen

pub returns-clause-stops : goal.returns-clause-stops
returns-clause-stops c =
    let same = subst (λ found. IfSome found (λ narrow. length narrow.allowed ≡ length c.args.sound.line.now.allowed))
    c.in-Some.is c.in_ok-narrow.ensures.stops in
    IfOk-weaker _ _ _
    (λ plan. some_weaker plan (λ (p : Plan). length p.cumuls ≡ length c.in-Some.narrow.allowed)
    (λ (p : Plan). length p.cumuls ≡ length c.args.sound.line.now.allowed) (λ p stops. stops ∙ same)) c.earliest.ensures.stops
