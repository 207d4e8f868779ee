use Rattle.std.proofs.Common.{◌≡◌, suc, length}
use Rattle.std.specs.Prelude.{slice_index_or}
use Rattle.vr_costfilter.specs.GuideRuns.{runs_of}
use Rattle.vr_costfilter.specs.Steps.{steps_of, AreStages}
use Rattle.vr_costfilter.specs.Stages.{IsStageOf}
use Rattle.vr_costfilter.specs.declared.guides.Stage.{Stage}
use Rattle.vr_costfilter.proofs.steps.KeptSteps.write_stages.Given as goal

abbrev pub invariant-loop-k : goal.invariant-loop-k
invariant-loop-k l = record {
  many : length l.self.stages.items ≡ suc l.k;
  stages : AreStages l.on.guide.now.model.now l.on.guide.now.d l.on.guide.now.v (runs_of l.on.guide.now) (steps_of l.fn.self) l.k l.self.stages.items;
  last : (other : Stage) → slice_index_or l.self.stages.items l.k other ≡ l.stage;
  range : IsStageOf l.on.guide.now.model.now (suc l.k) l.stage;
  trail : l.self.trail ≡ l.fn.self.trail;
}
