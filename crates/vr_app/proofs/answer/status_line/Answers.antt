use Rattle.std.proofs.Common.{sym, subst}
use Rattle.vr_app.proofs.ReplyLemmas.{IsPrintable, status-printable}
use Rattle.vr_app.proofs.answer.status_line.Goals as goal

pub answer_of_tree-requires : goal.answer_of_tree-requires
answer_of_tree-requires c =
    let p = subst IsPrintable (sym c.in_ok-tree.ensures) (status-printable c.args.name.now) in
    record { whole = p.whole; nested = p.nested }
