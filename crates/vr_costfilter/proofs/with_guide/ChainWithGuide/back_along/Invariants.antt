use Rattle.std.proofs.Common.{◌-◌, cond, drop, length, reverse}
use Rattle.vr_costfilter.specs.Floors.{IsStep, WentBack}
use Rattle.vr_costfilter.specs.GuideRuns.{runs_of}
use Rattle.vr_costfilter.proofs.with_guide.ChainWithGuide.back_along.Given as goal

abbrev pub invariant-loop-k : goal.invariant-loop-k
invariant-loop-k l = record {
  back : WentBack l.self.guide.now.model.now l.self.guide.now.d l.self.guide.now.v (runs_of l.self.guide.now)
      (drop (length l.self.nodes.now - l.k) (cond l.self.reversed (reverse l.self.nodes.now) l.self.nodes.now))
      l.fn.next l.fn.trail.steps.items l.trail.steps.items l.first;
  range : IsStep l.self.guide.now.model.now l.first;
}
