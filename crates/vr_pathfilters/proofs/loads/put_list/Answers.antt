use Rattle.std.proofs.Common.{◌≡◌, ◌<◌, ◌∙◌, length, ap, sym, subst, arith}
use Rattle.std.specs.Prelude.{All}
use Rattle.vr_model.specs.moves.Moves.{with_route}
use Rattle.vr_lists.proofs.VisitLists.{visits-below}
use Rattle.vr_routes.specs.Pieces.{joined, part_at}
use Rattle.vr_loads.specs.Kept.{AreCarried}
use Rattle.vr_pathfilters.proofs.Knowing.{with_part_is}
use Rattle.vr_pathfilters.proofs.PartEnds.{part_vehicle}
use Rattle.vr_pathfilters.proofs.PartTours.{tour_of_part}
use Rattle.vr_pathfilters.proofs.loads.put_list.Goals as goal

pub put-requires : goal.put-requires
put-requires c =
    let m = c.args.model.now in
    let lists = c.args.routes.now.lists in
    let low : c.args.k < length c.args.change.now = omega (arith, c.if-k-parts.false, c.parts.ensures.value) in
    let tour = tour_of_part m c.args.routes.now c.requires.tours c.args.change.now c.requires.made c.args.k low in
    let new = joined lists (part_at c.args.change.now c.args.k).pieces in
    let same : c.as_slice.result.now ≡ new = c.as_slice.ensures.value ∙ c.write_after.ensures in
    let known : c.vehicle.result < length m.vehicles =
    (let h = part_vehicle c.requires.made.makes.parts_are c.args.k low c.vehicle.ensures in let n = c.requires.tours.list_of_each in omega (arith, h, n)) in
    record {
      load = c.requires.load;
      vehicle = known;
      kept = (let n = c.requires.kept in omega (arith, known, n));
      nodes = subst (All (λ node. node < m.nodes)) (sym same) (visits-below m new tour.visits);
      few = c.as_slice.ensures.fits;
    }

pub returns-clause-carried : goal.returns-clause-carried
returns-clause-carried c = λ lists are.
    let m = c.args.model.now in
    let old = c.args.routes.now.lists in
    let low : c.args.k < length c.args.change.now = omega (arith, c.if-k-parts.false, c.parts.ensures.value) in
    let new = joined old (part_at c.args.change.now c.args.k).pieces in
    let same : c.as_slice.result.now ≡ new = c.as_slice.ensures.value ∙ c.write_after.ensures in
    subst (λ l. AreCarried m c.args.d l c.put.new.self)
    (ap (with_route lists c.vehicle.result) same
    ∙ (ap (λ v. with_route lists v new) c.vehicle.ensures ∙ sym (with_part_is old c.args.change.now c.args.k lists low)))
    (c.put.ensures lists are)
