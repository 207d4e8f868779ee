use Rattle.std.proofs.Common.{◌∙◌, ◌++◌, List, length, ap, sym, subst, arith}
use Rattle.std.specs.Prelude.{reverse}
use Rattle.std.proofs.lemmas.List.{reverse-reverse}
use Rattle.vr_costfilter.specs.Floors.{first_step_or, first_step, AreAimed}
use Rattle.vr_costfilter.specs.GuideRuns.{runs_of}
use Rattle.vr_costfilter.specs.Steps.{AreStepsFrom}
use Rattle.vr_costfilter.specs.declared.trails.Step.{Step}
use Rattle.vr_costfilter.proofs.FeasibleLemmas.{begin-had}
use Rattle.vr_costfilter.proofs.steps.KeptSteps.write.Goals as goal

pub back_along-requires : goal.back_along-requires
back_along-requires c = record { step = c.end_step-end.ensures.range; room = omega (arith, ap length c.clear-2.ensures, c.args.on.now.sound.few) }

pub write_stages-requires-clause-steps : goal.write_stages-requires-clause-steps
write_stages-requires-clause-steps c =
    let w = c.in-Some.ensures.back in
    let g = c.args.on.now.guide.now in
    let same = ap reverse (w.trail ∙ ap (λ (l : List Step). l ++ reverse w.steps) c.clear-2.ensures) ∙ reverse-reverse w.steps in
    subst (λ steps. AreStepsFrom g.model.now g.d g.v (runs_of g) c.args.on.now.list.now steps c.in-Some.first) (sym same) (record {
      steps_are = record { nodes_are = w.nodes_are; aimed = subst (AreAimed g.model.now g.d g.v (runs_of g) w.steps) c.end_step-end.ensures.value w.aimed };
      known = w.known;
      first_is = w.first_is ∙ ap (first_step_or w.steps) c.end_step-end.ensures.value;
      range = c.in-Some.ensures.range;
    })

pub returns-in-None-clause-all : goal.returns-in-None-clause-all
returns-in-None-clause-all c L by feasible =
    let g = c.args.on.now.guide.now in
    absurd (begin-had g.model.now g.d g.v (runs_of g) c.args.on.now.list.now L by feasible.0 feasible.1
    (ap (first_step g.model.now g.d g.v (runs_of g) c.args.on.now.list.now) (sym c.end_step-end.ensures.value) ∙ sym c.in-None.ensures.value))

pub invariant_of-chain : goal.invariant_of-chain
invariant_of-chain c = record { sound = c.args.on.now.sound }
