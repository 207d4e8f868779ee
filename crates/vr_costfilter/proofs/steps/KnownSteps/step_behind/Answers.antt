use Rattle.std.specs.Prelude.{pos}
use Rattle.vr_costfilter.specs.Floors.{end_step}
use Rattle.vr_costfilter.specs.GuideRuns.{runs_of}
use Rattle.vr_costfilter.specs.declared.trails.Step.{Step}
use Rattle.vr_costfilter.proofs.FloorLemmas.{visit-step}
use Rattle.vr_costfilter.proofs.KeptCumulLemmas.{step-known, step-there}
use Rattle.vr_costfilter.proofs.steps.KnownSteps.step_behind.Goals as goal

abbrev no_step : Step
no_step = record { node = 0; floor = pos 0 }

pub returns-then-k-n-clause-range : goal.returns-then-k-n-clause-range
returns-then-k-n-clause-range c =
    visit-step c.args.self.now.guide.now.model.now _ (step-known c.args.self.now.sound c.deref.ensures.0 c.args.k c.if-k-n.true no_step)

pub returns-then-k-n-clause-value : goal.returns-then-k-n-clause-value
returns-then-k-n-clause-value c =
    let g = c.args.self.now.guide.now in
    step-there c.args.self.now.sound c.deref.ensures.0 c.args.k c.if-k-n.true no_step (end_step g.model.now g.v (runs_of g))
