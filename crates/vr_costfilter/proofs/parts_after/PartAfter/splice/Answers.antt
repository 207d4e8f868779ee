use Rattle.std.proofs.Common.{◌<◌, length, sym, subst}
use Rattle.vr_parts.proofs.PartLemmas.{known-vehicle}
use Rattle.vr_routes.proofs.PartLemmas.{has_ends}
use Rattle.vr_costfilter.proofs.parts_after.PartAfter.splice.Goals as goal

pub splice-requires-clause-ends : goal.splice-requires-clause-ends
splice-requires-clause-ends c =
    let part = c.args.self.now in
    has_ends part.routes.now.lists part.change.now part.sound.parts_are part.k part.sound.part

pub returns-clause-ends : goal.returns-clause-ends
returns-clause-ends c =
    let part = c.args.self.now in
    c.splice.ensures.ends part.routes.now.lists part.sound.parts_are

pub returns-clause-known : goal.returns-clause-known
returns-clause-known c =
    let part = c.args.self.now in
    let is = part.sound in
    subst (λ v. v < length part.model.now.vehicles) (sym c.splice.ensures.vehicle)
    (known-vehicle part.model.now is.well_formed part.routes.now.lists part.change.now is.parts_are is.valid part.k is.part)
