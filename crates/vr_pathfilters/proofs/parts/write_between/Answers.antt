use Rattle.std.proofs.Common.{refl}
use Rattle.vr_routes.proofs.PartLemmas.{has_ends}
use Rattle.vr_pathfilters.proofs.PartEnds.{part_between}
use Rattle.vr_pathfilters.proofs.parts.write_between.Goals as goal

pub splice-splice-requires-clause-ends : goal.splice-splice-requires-clause-ends
splice-splice-requires-clause-ends c = has_ends c.args.routes.now.lists c.args.change.now c.requires.made.makes.parts_are c.args.k c.requires.part

pub join_into-requires : goal.join_into-requires
join_into-requires c = record {
  within = (c.splice-splice.ensures.ends c.args.routes.now.lists c.requires.made.makes.parts_are).within;
  room = (part_between c.requires.tours.1 c.requires.tours.2 c.requires.made c.args.k c.requires.part
      c.splice-splice.ensures.vehicle (c.splice-splice.ensures.ends c.args.routes.now.lists c.requires.made.makes.parts_are) refl).few;
}

pub returns : goal.returns
returns c model well_formed tours = part_between well_formed tours c.requires.made c.args.k c.requires.part
    c.splice-splice.ensures.vehicle (c.splice-splice.ensures.ends c.args.routes.now.lists c.requires.made.makes.parts_are) c.join_into.ensures
