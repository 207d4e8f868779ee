use Rattle.std.proofs.Common.{sym, subst}
use Rattle.vr_routes.specs.Pieces.{joined, part_at}
use Rattle.vr_tabu.specs.Parts.{IsListChange}
use Rattle.vr_tabu.proofs.PartFacts.{list_change, seen_as}
use Rattle.vr_tabu.proofs.tabu_list.WholeChange.list_change.Goals as goal

pub invariant_of-result : goal.invariant_of-result
invariant_of-result c =
    let whole = c.args.self in
    let lists = whole.routes.now.lists in
    subst (λ new. IsListChange lists c.vehicle-vehicle.result new) (sym c.requires.written)
    (subst (λ v. IsListChange lists v (joined lists (part_at whole.change.now c.args.k).pieces)) (sym c.vehicle-vehicle.ensures)
    (list_change whole.closed.model.now lists whole.change.now c.requires.made.makes.parts_are
    whole.before whole.after whole.closed.well_formed c.args.k c.requires.part))

pub returns : goal.returns
returns c =
    let whole = c.args.self in
    seen_as whole.closed.model.now whole.routes.now.lists whole.change.now c.args.k c.start_of.result
    c.vehicle-vehicle.result c.args.after.now c.vehicle-vehicle.ensures c.start_of.ensures c.requires.written
