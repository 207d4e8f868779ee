use Rattle.std.proofs.Common.{subst, arith}
use Rattle.vr_steps.specs.Arcs.{IsSoundHop}
use Rattle.vr_steps.specs.Levels.{IsCumuls}
use Rattle.vr_line_tests.proofs.reached.all_find.Goals as goal

pub steps_and_joins-requires-clause-here : goal.steps_and_joins-requires-clause-here
steps_and_joins-requires-clause-here c =
    subst IsCumuls (c.get-here.ensures.value c.get-here.result.now) (c.requires.line.cumuls 0 c.get-here.result.now (omega (arith, c.requires.line.stops)))

pub steps_and_joins-requires-clause-hop : goal.steps_and_joins-requires-clause-hop
steps_and_joins-requires-clause-hop c =
    subst IsSoundHop (c.get-hop.ensures.value c.get-hop.result.now) (c.requires.line.each_hop 0 c.get-hop.result.now (omega (arith, c.requires.line.arcs)))

pub steps_and_joins-requires-clause-next : goal.steps_and_joins-requires-clause-next
steps_and_joins-requires-clause-next c = subst IsCumuls (c.get-next.ensures.value c.get-next.result.now)
    (c.requires.line.cumuls 1 c.get-next.result.now (omega (arith, c.requires.line.stops, c.requires.line.arcs)))
