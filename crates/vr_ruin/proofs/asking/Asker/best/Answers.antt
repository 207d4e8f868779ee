use Rattle.std.proofs.Common.{◌∙◌, sym}
use Rattle.vr_ruin.proofs.CarryingLemmas.{none-best}
use Rattle.vr_ruin.proofs.PlaceLemmas.{none-stays-within}
use Rattle.vr_ruin.proofs.asking.Asker.best.Goals as goal

pub returns-then-not-carries-clause-best : goal.returns-then-not-carries-clause-best
returns-then-not-carries-clause-best c =
    none-stays-within c.args.limit
    (none-best c.args.self.now c.know.ensures c.args.list.vehicle c.requires.vehicle
    c.args.list.nodes.now c.args.item (sym c.carries.ensures ∙ c.if-not-carries.true))

pub best_carried-requires-clause-ready : goal.best_carried-requires-clause-ready
best_carried-requires-clause-ready c = record { known = c.requires.known; carries = sym c.carries.ensures ∙ c.if-not-carries.false }
