use Rattle.vr_lists.proofs.VisitLists.{visits-below}
use Rattle.vr_ruin.proofs.known.KnownRoute.take.Goals as goal

pub invariant_of-driven : goal.invariant_of-driven
invariant_of-driven c = record { there = c.requires.vehicle; below = visits-below c.args.lookups.now.closed.model.now c.args.list.now c.requires.tour.visits }
