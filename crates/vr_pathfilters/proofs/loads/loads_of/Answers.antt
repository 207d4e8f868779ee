use Rattle.vr_model.specs.routes.Routes.{route}
use Rattle.vr_lists.proofs.VisitLists.{visits-below}
use Rattle.vr_pathfilters.proofs.PartTours.{tour_of}
use Rattle.vr_pathfilters.proofs.loads.loads_of.Goals as goal

pub open-requires-clause-nodes : goal.open-requires-clause-nodes
open-requires-clause-nodes c = λ v low. visits-below c.args.closed.model.now (route c.args.routes.now.lists v)
    (tour_of c.args.closed.model.now c.args.routes.now c.requires.tours v low).visits
