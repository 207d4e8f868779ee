use Rattle.std.proofs.Common.{sym, arith}
use Rattle.vr_model.specs.tables.Tables.{vehicle_at}
use Rattle.vr_arccosts.proofs.PathLemmas.{last-kept}
use Rattle.vr_arccosts.proofs.lines.Line.node_before.Goals as goal

pub returns-clause-value : goal.returns-clause-value
returns-clause-value c =
    let some = c.if-place-eq0.false in
    sym (last-kept (vehicle_at c.args.self.now.costs.model.now c.args.self.now.costs.vehicle).start
    c.args.self.now.list.now c.args.place (omega (arith, some)) c.requires.place)
