use Rattle.std.proofs.Common.{◌∙◌, ap, sym, subst}
use Rattle.std.proofs.lemmas.Result.{IfOk-weaker}
use Rattle.vr_json.specs.Trees.{text_line}
use Rattle.vr_app.specs.Reply.{reply_generated}
use Rattle.vr_app.specs.Status.{status_number}
use Rattle.vr_app.proofs.GeneratedLemmas.{generated-printable}
use Rattle.vr_app.proofs.ReplyLemmas.{IsPrintable}
use Rattle.vr_app.proofs.numbered.generated.Goals as goal

pub answer_of_tree-requires : goal.answer_of_tree-requires
answer_of_tree-requires c =
    let p = subst IsPrintable (sym c.in_ok-tree.ensures) (generated-printable c.args.number) in
    record { whole = p.whole; nested = p.nested }

pub returns-clause-reply : goal.returns-clause-reply
unfolding reply_generated
returns-clause-reply c = IfOk-weaker c.answer_of_tree.result _ _
    (λ answer is. record { status_is = ap status_number is.status_is; text_is = is.text_is ∙ ap text_line c.in_ok-tree.ensures }) c.answer_of_tree.ensures
