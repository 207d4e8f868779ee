use Rattle.std.proofs.Common.{sym, subst}
use Rattle.vr_app.proofs.ReplyLemmas.{IsPrintable, broken-printable}
use Rattle.vr_app.proofs.answer.broken.Goals as goal

pub answer_of_tree-requires : goal.answer_of_tree-requires
answer_of_tree-requires c = let p = subst IsPrintable (sym c.in_ok-tree.ensures) (broken-printable _ _ _) in record { whole = p.whole; nested = p.nested }
