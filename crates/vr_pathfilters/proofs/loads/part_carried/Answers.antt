use Rattle.std.proofs.Common.{◌<◌, ◌∙◌, refl, ap₂, sym, subst, length, arith}
use Rattle.std.specs.Prelude.{All}
use Rattle.vr_model.proofs.schedules.ChoiceLaws.{chosen_where_feasible}
use Rattle.vr_lists.proofs.VisitLists.{visits-below}
use Rattle.vr_routes.specs.Pieces.{joined, part_at}
use Rattle.vr_loads.specs.Loads.{can_carry}
use Rattle.vr_loads.proofs.LoadLines.{decide}
use Rattle.vr_pathfilters.proofs.PartEnds.{part_vehicle, part_within}
use Rattle.vr_pathfilters.proofs.PartTours.{tour_of_part}
use Rattle.vr_pathfilters.proofs.loads.part_carried.Goals as goal

pub can_carry-requires : goal.can_carry-requires
can_carry-requires c =
    let m = c.args.model.now in
    let lists = c.args.routes.now.lists in
    let are = c.requires.made.makes.parts_are in
    let tour = tour_of_part m c.args.routes.now c.requires.tours c.args.change.now c.requires.made c.args.k c.requires.part in
    record {
      load = c.requires.load;
      many = c.requires.tours.list_of_each;
      carried = c.requires.carried;
      vehicle = part_vehicle are c.args.k c.requires.part c.vehicle.ensures;
      within = part_within are c.args.k c.requires.part c.pieces.ensures.value;
      few = c.pieces.ensures.few;
      nodes = subst (λ l. All (λ node. node < m.nodes) (joined lists l)) (sym c.pieces.ensures.value)
          (visits-below m (joined lists (part_at c.args.change.now c.args.k).pieces) tour.visits);
    }

pub returns : goal.returns
returns c =
    let m = c.args.model.now in
    let lists = c.args.routes.now.lists in
    let part = part_at c.args.change.now c.args.k in
    let known : part.vehicle < length m.vehicles =
    (let h = part_vehicle c.requires.made.makes.parts_are c.args.k c.requires.part refl in let n = c.requires.tours.list_of_each in omega (arith, h, n)) in
    c.can_carry.ensures ∙ (ap₂ (λ v l. can_carry m c.args.d v (joined lists l)) c.vehicle.ensures c.pieces.ensures.value
    ∙ sym (decide chosen_where_feasible m c.args.d part.vehicle c.requires.load known (joined lists part.pieces)))
