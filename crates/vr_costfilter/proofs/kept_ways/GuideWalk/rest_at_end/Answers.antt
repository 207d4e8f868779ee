use Rattle.std.proofs.Common.{refl, sym, subst, arith}
use Rattle.vr_plan.proofs.BoundLemmas.{read-cumul}
use Rattle.vr_costfilter.specs.GuideRuns.{runs_of}
use Rattle.vr_costfilter.specs.Rests.{IsTightRestOf}
use Rattle.vr_costfilter.specs.Ways.{tight-more}
use Rattle.vr_costfilter.proofs.RestLemmas.{end-rest, rest-is}
use Rattle.vr_costfilter.proofs.kept_ways.GuideWalk.rest_at_end.Goals as goal

pub returns-clause-value : goal.returns-clause-value
returns-clause-value c =
    let h = c.args.self.now.sound in
    rest-is _ _ _ _ _ _ _ _ h.end_is refl (read-cumul c.args.self.now.finish.allowed.lo h.finish.lo) (read-cumul c.args.self.now.finish.allowed.hi h.finish.hi)

pub returns-clause-range : goal.returns-clause-range
returns-clause-range c n =
    let g = c.args.self.now in
    let h = c.args.self.now.sound in
    tight-more 0 n (omega arith)
    (subst (IsTightRestOf g.model.now 0) (sym (returns-clause-value c))
    (end-rest g.model.now h.well_formed g.d g.v h.dimension h.vehicle (runs_of g) h.finish))
