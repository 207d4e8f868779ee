use Rattle.std.proofs.Common.{sym, subst}
use Rattle.vr_app.proofs.ReplyLemmas.{IsPrintable, met-printable}
use Rattle.vr_app.proofs.SpanLemmas.{spans_of-printable}
use Rattle.vr_app.proofs.checked.answer_met.Goals as goal

pub spans_tree-requires : goal.spans_tree-requires
spans_tree-requires c = (c.args.cost, c.requires.meets)

pub answer_of_tree-requires : goal.answer_of_tree-requires
answer_of_tree-requires c = let p = subst IsPrintable (sym c.in_ok-tree-in-Check.ensures) (met-printable _) in record { whole = p.whole; nested = p.nested }

pub answer_of_tree-requires-in-Spans : goal.answer_of_tree-requires-in-Spans
answer_of_tree-requires-in-Spans c =
    let p = subst IsPrintable (sym c.in_ok-tree-in-Spans.ensures) (spans_of-printable _) in
    record { whole = p.whole; nested = p.nested }
