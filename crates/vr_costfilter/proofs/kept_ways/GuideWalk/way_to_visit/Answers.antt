use Rattle.std.proofs.Common.{◌+◌, sym, subst, arith}
use Rattle.vr_model.proofs.routes.Lists.{visit_below}
use Rattle.vr_costfilter.specs.GuideRuns.{runs_of}
use Rattle.vr_costfilter.specs.Ways.{tight-more, IsTightWayOf}
use Rattle.vr_costfilter.proofs.WayLemmas.{on-way, visit-ends}
use Rattle.vr_costfilter.proofs.kept_ways.GuideWalk.way_to_visit.Goals as goal

pub returns-clause-range : goal.returns-clause-range
returns-clause-range c n m less is =
    let g = c.args.self.now in
    let h = g.sound in
    tight-more (n + 1) m (omega (arith, less))
    (subst (IsTightWayOf g.model.now (n + 1)) (sym c.way_on.ensures)
    (on-way g.model.now h.well_formed g.d g.v h.dimension h.vehicle n c.args.way c.args.node _ is (visit_below g.model.now c.args.node c.requires.node)
    (visit-ends g.model.now h.well_formed g.d g.v h.dimension h.vehicle (runs_of g) h.visits c.args.node _ c.requires.node)))
