use Rattle.std.proofs.Common.{◌∙◌, ◌<◌, [], length, sym, subst, arith}
use Rattle.vr_reach.specs.VisitSets.{AreVisitSets, IsTableOf}
use Rattle.vr_reach.proofs.Tables.{table_here}
use Rattle.vr_reach.proofs.visits.VisitSets.of.Goals as goal

pub returns : goal.returns
returns c = λ model d are.
    let sets = c.args.self.now in
    let low : c.args.v < length model.vehicles = (let n = are.one_of_each in let here = c.requires.vehicle in omega (arith, n, here)) in
    let there = subst (IsTableOf model d c.args.v sets.capacities) (c.get-k.ensures.value 0) (are.each c.args.v low) in
    subst (AreVisitSets model d c.args.v) (c.get.ensures.value [] ∙ sym c.as_slice.ensures)
    (table_here model d c.args.v c.get-k.result.now sets are.tables there)
