use Rattle.std.proofs.Common.{sym, subst, ◌∙◌, arith}
use Rattle.vr_reach.specs.Lists.{IsTour}
use Rattle.vr_pathfilters.proofs.PartTours.{tour_of_part}
use Rattle.vr_pathfilters.proofs.list_rows.write_part.Goals as goal

pub write_list-requires-clause-tour : goal.write_list-requires-clause-tour
write_list-requires-clause-tour g c =
    subst (IsTour c.args.at.now.closed.model.now) (sym (c.as_slice.ensures.value ∙ c.write_after.ensures))
    (tour_of_part c.args.at.now.closed.model.now c.args.at.now.routes.now c.requires.at.tours
    c.args.change.now c.requires.made c.args.k (omega (arith, c.if-k-parts.false, c.parts.ensures.value)))
