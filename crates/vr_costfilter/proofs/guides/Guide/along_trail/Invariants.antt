use Rattle.std.proofs.Common.{◌≡◌, ◌+◌, Some, reverse, take}
use Rattle.vr_costfilter.specs.GuideRuns.{runs_of}
use Rattle.vr_costfilter.specs.Stages.{along, IsStageOf}
use Rattle.vr_costfilter.proofs.guides.Guide.along_trail.Given as goal

abbrev pub invariant-loop-k : goal.invariant-loop-k
invariant-loop-k l = record {
  value : along l.self.model.now l.self.d l.self.v (runs_of l.self) (Some l.fn.stage) (take l.k (reverse l.trail.steps.items)) ≡ Some l.gone;
  range : IsStageOf l.self.model.now (1002 + l.k) l.gone;
}
