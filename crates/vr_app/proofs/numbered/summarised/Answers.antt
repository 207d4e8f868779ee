use Rattle.std.proofs.Common.{sym, subst}
use Rattle.vr_app.proofs.ReplyLemmas.{IsPrintable, summary-printable}
use Rattle.vr_app.proofs.numbered.summarised.Goals as goal

pub answer_of_tree-requires : goal.answer_of_tree-requires
answer_of_tree-requires c =
    let p = subst IsPrintable (sym c.in_ok-tree.ensures) (summary-printable c.in_ok-summary.summary) in
    record { whole = p.whole; nested = p.nested }
