use Rattle.std.proofs.Common.{◌-◌, drop, take}
use Rattle.vr_costfilter.specs.Floors.{IsStep, WentBack}
use Rattle.vr_costfilter.specs.GuideRuns.{runs_of}
use Rattle.vr_costfilter.proofs.steps.KnownSteps.lead.Given as goal

abbrev pub invariant-loop-k : goal.invariant-loop-k
invariant-loop-k l = record {
  back : WentBack l.self.guide.now.model.now l.self.guide.now.d l.self.guide.now.v (runs_of l.self.guide.now)
      (drop (l.front - l.k) (take l.front l.self.list.now)) l.fn.next l.fn.trail.steps.items l.trail.steps.items l.first;
  range : IsStep l.self.guide.now.model.now l.first;
}
