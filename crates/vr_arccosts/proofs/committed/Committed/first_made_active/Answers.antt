use Rattle.std.specs.Prelude.{◌+ℤ◌, pos}
use Rattle.vr_arccosts.specs.Runs.{gap_added}
use Rattle.vr_arccosts.proofs.LineLemmas.{least-told}
use Rattle.vr_arccosts.proofs.PutLemmas.{active-no-less}
use Rattle.vr_arccosts.proofs.committed.Committed.first_made_active.Goals as goal

pub returns-clause-no_less : goal.returns-clause-no_less
returns-clause-no_less c t low high =
    let line = c.line_of-line.ensures in
    active-no-less c.args.self.kept.now.model c.args.self.routes.now.lists c.args.u c.args.w t c.args.asked.bound
    (least-told c.args.asked.bound (λ m n l. pos 0 +ℤ gap_added m n l c.args.u c.args.u t)
    line.model line.vehicle line.list (c.first_gap.ensures.no_less t low high))
