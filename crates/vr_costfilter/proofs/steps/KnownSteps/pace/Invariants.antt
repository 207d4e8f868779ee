use Rattle.std.proofs.Common.{◌≡◌, ◌+◌, Some, take}
use Rattle.std.specs.Prelude.{slice_index_or}
use Rattle.vr_costfilter.specs.GuideRuns.{runs_of}
use Rattle.vr_costfilter.specs.Steps.{steps_of}
use Rattle.vr_costfilter.specs.Stages.{along, IsStageOf}
use Rattle.vr_costfilter.specs.declared.guides.Stage.{Stage}
use Rattle.vr_costfilter.proofs.steps.KnownSteps.pace.Given as goal

abbrev pub invariant-loop-k : goal.invariant-loop-k
invariant-loop-k l = record {
  value : along l.self.guide.now.model.now l.self.guide.now.d l.self.guide.now.v
      (runs_of l.self.guide.now) (Some l.out) (take l.k (steps_of l.self.kept.now)) ≡ Some l.gone;
  at : (other : Stage) → l.gone.at ≡ (slice_index_or l.self.kept.now.stages.items l.k other).at;
  range : IsStageOf l.self.guide.now.model.now (1 + l.k) l.gone;
}
