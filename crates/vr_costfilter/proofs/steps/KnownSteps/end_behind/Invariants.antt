use Rattle.std.proofs.Common.{◌≡◌, ◌+◌, Some, drop}
use Rattle.vr_costfilter.specs.GuideRuns.{runs_of}
use Rattle.vr_costfilter.specs.Steps.{steps_of}
use Rattle.vr_costfilter.specs.Stages.{along_to_end, IsStageOf}
use Rattle.vr_costfilter.proofs.steps.KnownSteps.end_behind.Given as goal

abbrev pub invariant-loop-k : goal.invariant-loop-k
invariant-loop-k l = record {
  value : along_to_end l.self.guide.now.model.now l.self.guide.now.d l.self.guide.now.v (runs_of l.self.guide.now)
      (Some l.gone) (drop l.k (steps_of l.self.kept.now)) ≡ along_to_end l.self.guide.now.model.now l.self.guide.now.d
      l.self.guide.now.v (runs_of l.self.guide.now) (Some l.fn.stage) (drop l.fn.behind (steps_of l.self.kept.now));
  range : IsStageOf l.self.guide.now.model.now (2002 + l.k) l.gone;
}
