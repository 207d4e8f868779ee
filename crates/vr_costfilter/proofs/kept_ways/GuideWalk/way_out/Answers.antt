use Rattle.std.proofs.Common.{refl, ap, sym, subst, arith}
use Rattle.vr_model.specs.tables.Tables.{no_vehicle}
use Rattle.vr_model.specs.declared.records.Vehicle.{Vehicle}
use Rattle.vr_plan.proofs.BoundLemmas.{read-cumul}
use Rattle.vr_costfilter.specs.GuideRuns.{runs_of}
use Rattle.vr_costfilter.specs.Ways.{tight-more, IsTightWayOf}
use Rattle.vr_costfilter.proofs.WayLemmas.{out-way, way-is}
use Rattle.vr_costfilter.proofs.kept_ways.GuideWalk.way_out.Goals as goal

pub returns-clause-value : goal.returns-clause-value
returns-clause-value c =
    let h = c.args.self.now.sound in
    way-is _ _ _ _ _ _ _ _ (ap (λ (w : Vehicle). w.start) (sym (c.get.ensures.value no_vehicle)))
    (read-cumul c.args.self.now.start.lo h.start.lo) refl (read-cumul c.args.self.now.start.hi h.start.hi)

pub returns-clause-range : goal.returns-clause-range
returns-clause-range c n =
    let g = c.args.self.now in
    let h = c.args.self.now.sound in
    tight-more 0 n (omega arith)
    (subst (IsTightWayOf g.model.now 0) (sym (returns-clause-value c))
    (out-way g.model.now h.well_formed g.d g.v h.dimension h.vehicle (runs_of g) h.start))
