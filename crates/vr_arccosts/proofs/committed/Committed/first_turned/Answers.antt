use Rattle.vr_arccosts.specs.Runs.{turn_added}
use Rattle.vr_arccosts.proofs.LineLemmas.{least-told}
use Rattle.vr_arccosts.proofs.RunLemmas.{turn-no-less}
use Rattle.vr_arccosts.proofs.committed.Committed.first_turned.Goals as goal

pub returns-clause-no_less : goal.returns-clause-no_less
returns-clause-no_less c k low high =
    let line = c.line_of-line.ensures in
    turn-no-less c.args.self.kept.now.model c.args.self.routes.now.lists c.args.v c.args.a k c.args.asked.bound
    (least-told c.args.asked.bound (λ m n l. turn_added m n l c.args.a k) line.model line.vehicle line.list (c.first_turn.ensures.no_less k low high))
