use Rattle.std.proofs.Common.{sym, arith}
use Rattle.vr_model.specs.tables.Tables.{vehicle_at}
use Rattle.vr_arccosts.proofs.PathLemmas.{last-kept}
use Rattle.vr_bounds.proofs.drivers.Driver.before.Goals as goal

pub returns-clause-value : goal.returns-clause-value
returns-clause-value c =
    let some = c.if-place-eq0.false in
    sym (last-kept (vehicle_at c.args.self.closed.model.now c.args.self.vehicle).start c.args.list.now c.args.place (omega (arith, some)) c.requires.place)
