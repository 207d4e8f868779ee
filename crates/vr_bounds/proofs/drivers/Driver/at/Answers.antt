use Rattle.std.proofs.Common.{sym, arith}
use Rattle.vr_model.specs.tables.Tables.{vehicle_at}
use Rattle.vr_arccosts.proofs.PathLemmas.{first-left}
use Rattle.vr_bounds.proofs.drivers.Driver.at.Goals as goal

pub returns-clause-value : goal.returns-clause-value
returns-clause-value c =
    let other = c.if-place-list.false in
    let within = c.requires.place in
    sym (first-left (vehicle_at c.args.self.closed.model.now c.args.self.vehicle).end c.args.list.now c.args.place (omega (arith, other, within)))
