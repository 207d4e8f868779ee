use Rattle.std.proofs.Common.{◌<◌, length, sym, subst}
use Rattle.vr_routes.specs.Pieces.{no_part}
use Rattle.vr_costfilter.proofs.early_change.EarlyChange.vehicle.Goals as goal

pub returns-clause-known : goal.returns-clause-known
returns-clause-known c =
    let early = c.args.self.now in
    subst (λ v. v < length early.model.now.vehicles) (sym c.vehicle.ensures)
    (early.sound.known c.args.k no_part c.requires)
