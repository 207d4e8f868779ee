use Rattle.std.proofs.Common.{◌≡◌, ◌∙◌, Bool, true, false, ap, subst, sym}
use Rattle.std.specs.Prelude.{not, ◌&&◌}
use Rattle.vr_model.specs.routes.Costs.{fixed_part}
use Rattle.vr_usecosts.specs.Fixed.{is_some_fixed}
use Rattle.vr_parts.specs.Parts.{CostAlike}
use Rattle.vr_costfilter.specs.PlanCosts.{pays_no_plan, soft_and_span}
use Rattle.vr_costfilter.specs.GlobalCosts.{global_cost_of, is_some_spanned}
use Rattle.vr_judge.proofs.SumLemmas.{arcs-and-groups}
use Rattle.vr_judge.proofs.costs.are_idle.Goals as goal
use Rattle.vr_judge.proofs.costs.are_idle.Goals.{then-is_idle, else-is_idle}

not-both : {A : Type 0} (b : Bool) → b ≡ true → b ≡ false → A
not-both b holds fails = absurd cc

as_false : (told is : Bool) → told ≡ false → is ≡ false → told ≡ is
as_false told is low fails = low ∙ sym fails

both_are : (a b told is : Bool) → a ≡ true → b ≡ told → told ≡ is → (a && b) ≡ is
both_are a b told is first second same = ap (λ x. x && b) first ∙ second ∙ same

pub returns-then-is_idle-2-clause-alike : goal.returns-then-is_idle-2-clause-alike
returns-then-is_idle-2-clause-alike c idle =
    let model = c.args.fixed.now.model in
    let two = c.if-is_idle-2.true in
    let fixed : CostAlike fixed_part model = elim c.if-is_idle.branch [
      | then-is_idle w ↦ c.is_idle.ensures.alike w.if-is_idle.true
      | else-is_idle w ↦ not-both _ two (w.value-is ∙ w.if-is_idle.false)
    ] in
    let plans : CostAlike soft_and_span model = elim c.if-is_idle.branch [
      | then-is_idle w ↦ subst (CostAlike soft_and_span) c.requires.plans_model (w.is_idle-then-is_idle.ensures.alike cc)
      | else-is_idle w ↦ not-both _ two (w.value-is ∙ w.if-is_idle.false)
    ] in
    let spans : CostAlike global_cost_of model = subst (CostAlike global_cost_of) c.requires.spans_model (c.is_idle-then-is_idle-2.ensures.alike idle) in
    arcs-and-groups model fixed plans spans

pub returns-then-is_idle-2-clause-idle : goal.returns-then-is_idle-2-clause-idle
returns-then-is_idle-2-clause-idle c =
    let model = c.args.fixed.now.model in
    let two = c.if-is_idle-2.true in
    let both : (not (is_some_fixed model) && pays_no_plan model) ≡ true = elim c.if-is_idle.branch [
      | then-is_idle w ↦ both_are _ _ _ _ (sym c.is_idle.ensures.idle ∙ w.if-is_idle.true)
          (sym (w.is_idle-then-is_idle.ensures.idle ∙ ap pays_no_plan c.requires.plans_model)) cc
      | else-is_idle w ↦ not-both _ two (w.value-is ∙ w.if-is_idle.false)
    ] in
    c.is_idle-then-is_idle-2.ensures.idle ∙ ap (λ m. not (is_some_spanned m)) c.requires.spans_model ∙ sym (ap (λ b. b && not (is_some_spanned model)) both)

pub returns-else-is_idle-2-clause-idle : goal.returns-else-is_idle-2-clause-idle
returns-else-is_idle-2-clause-idle c =
    let model = c.args.fixed.now.model in
    let two = c.if-is_idle-2.false in
    let both : (not (is_some_fixed model) && pays_no_plan model) ≡ false = elim c.if-is_idle.branch [
      | then-is_idle w ↦ both_are _ _ _ _ (sym c.is_idle.ensures.idle ∙ w.if-is_idle.true)
          (sym (w.is_idle-then-is_idle.ensures.idle ∙ ap pays_no_plan c.requires.plans_model)) cc
      | else-is_idle w ↦ ap (λ b. b && pays_no_plan model) (sym c.is_idle.ensures.idle ∙ w.if-is_idle.false)
    ] in
    as_false _ _ two (ap (λ b. b && not (is_some_spanned model)) both)
