use Rattle.std.proofs.Common.{sym, arith}
use Rattle.vr_model.specs.tables.Tables.{vehicle_at}
use Rattle.vr_arccosts.proofs.PathLemmas.{first-left}
use Rattle.vr_arccosts.proofs.lines.Line.node_at.Goals as goal

pub returns-clause-value : goal.returns-clause-value
returns-clause-value c =
    let other = c.if-place-self.false in
    let within = c.requires.place in
    sym (first-left (vehicle_at c.args.self.now.costs.model.now c.args.self.now.costs.vehicle).end
    c.args.self.now.list.now c.args.place (omega (arith, other, within)))
