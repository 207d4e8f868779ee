use Rattle.std.proofs.Common.{sym, subst}
use Rattle.vr_routes.specs.Pieces.{IsSplice, part_at}
use Rattle.vr_routes.proofs.PartLemmas.{has_ends}
use Rattle.vr_guided.proofs.PartLemmas.{part_of}
use Rattle.vr_guided.proofs.changing.WeighedChange.splice.Goals as goal

pub splice-requires-clause-ends : goal.splice-requires-clause-ends
splice-requires-clause-ends c = has_ends _ _ c.args.self.now.parts _ c.requires

pub returns-clause-part : goal.returns-clause-part
returns-clause-part c =
    let it = c.args.self.now.of in
    part_of it.weights.closed.model.now it.weights.closed.well_formed it.routes.now.lists it.valid c.args.self.now.change.now
    c.args.self.now.parts c.args.self.now.after c.args.k c.splice.result.vehicle c.requires c.splice.ensures.vehicle

pub returns-clause-ends : goal.returns-clause-ends
returns-clause-ends c =
    subst (λ v. IsSplice c.args.self.now.of.routes.now.lists v (part_at c.args.self.now.change.now c.args.k).pieces
    c.splice.result.front c.splice.result.behind c.splice.result.middle.now)
    (sym c.splice.ensures.vehicle) (c.splice.ensures.ends c.args.self.now.of.routes.now.lists c.args.self.now.parts)
