use Rattle.std.proofs.Common.{◌-◌, drop, length}
use Rattle.vr_routes.specs.Pieces.{joined}
use Rattle.vr_costfilter.specs.Floors.{IsStep, WentBack}
use Rattle.vr_costfilter.specs.GuideRuns.{runs_of}
use Rattle.vr_costfilter.proofs.with_guide.PiecesWithGuide.back_along.Given as goal

abbrev pub invariant-loop-k : goal.invariant-loop-k
invariant-loop-k l = record {
  back : WentBack l.self.guide.now.model.now l.self.guide.now.d l.self.guide.now.v (runs_of l.self.guide.now)
      (joined l.self.routes.now.lists (drop (length l.self.pieces.now - l.k) l.self.pieces.now)) l.fn.next l.fn.trail.steps.items l.trail.steps.items l.first;
  range : IsStep l.self.guide.now.model.now l.first;
}
