use Rattle.vr_pathfilters.proofs.TurnLemmas.{tour_nodes}
use Rattle.vr_pathfilters.proofs.pairs.count_list.Goals as goal

pub put-requires : goal.put-requires
put-requires c = record { nodes = tour_nodes c.model.ensures.well_formed c.requires.tour; few = c.requires.few; distinct = c.requires.tour.distinct }
