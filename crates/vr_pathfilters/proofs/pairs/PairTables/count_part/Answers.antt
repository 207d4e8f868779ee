use Rattle.std.proofs.Common.{◌∙◌, sym, subst}
use Rattle.vr_reach.specs.Lists.{IsTour}
use Rattle.vr_pathfilters.proofs.PartTours.{tour_of_part}
use Rattle.vr_pathfilters.proofs.pairs.PairTables.count_part.Goals as goal

pub count_list-requires-clause-tour : goal.count_list-requires-clause-tour
count_list-requires-clause-tour c =
    subst (IsTour c.args.node_tables.now) (sym (c.as_slice.ensures.value ∙ c.write_after.ensures))
    (tour_of_part c.args.node_tables.now c.args.routes.now c.requires.tours.tours_are c.args.change.now c.requires.made c.args.k c.requires.part)
