use Rattle.std.proofs.Common.{◌∙◌, ap}
use Rattle.vr_watch.specs.Reports.{tallied_after}
use Rattle.vr_watch.proofs.ReportLemmas.{noted_first}
use Rattle.vr_watch.proofs.counting.TallyWatch.note.Goals as goal

pub returns-clause-noted : goal.returns-clause-noted
returns-clause-noted c = λ later. ap (λ t. tallied_after t later) c.count.ensures ∙ noted_first c.args.self.now c.args.event later
