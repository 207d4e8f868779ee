use Rattle.std.proofs.Common.{◌<◌, length, sym, subst}
use Rattle.vr_parts.proofs.PartLemmas.{known-vehicle}
use Rattle.vr_costfilter.proofs.parts_after.PartAfter.vehicle.Goals as goal

pub returns-clause-known : goal.returns-clause-known
returns-clause-known c =
    let part = c.args.self.now in
    let is = part.sound in
    subst (λ v. v < length part.model.now.vehicles) (sym c.vehicle.ensures)
    (known-vehicle part.model.now is.well_formed part.routes.now.lists part.change.now is.parts_are is.valid part.k is.part)
