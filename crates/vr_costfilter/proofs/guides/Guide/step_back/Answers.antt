use Rattle.std.proofs.Common.{sym, subst}
use Rattle.vr_costfilter.specs.Floors.{WentBack}
use Rattle.vr_costfilter.specs.GuideRuns.{runs_of}
use Rattle.vr_costfilter.proofs.FloorLemmas.{back-one}
use Rattle.vr_costfilter.proofs.guides.Guide.step_back.Goals as goal

pub returns-clause-back : goal.returns-clause-back
returns-clause-back c nodes is =
    let g = c.args.self.now in
    let step = c.in_ok-step.step in
    let new = c.push.new.self.items in
    subst (λ l. WentBack g.model.now g.d g.v (runs_of g) l c.args.next c.args.trail.now.steps.items new step) (sym is)
    (back-one g.model.now g.d g.v (runs_of g) c.args.node c.args.next step c.args.trail.now.steps.items
    new (sym c.in_ok-step.ensures.value) c.in_ok-step.ensures.range c.push.ensures.items)
