use Rattle.std.proofs.Common.{Err, ap, sym, subst, rules}
use Rattle.std.specs.Prelude.{IfOk}
use Rattle.serde_json.specs.View.{view}
use Rattle.vr_app.specs.Answers.{AnswersReply}
use Rattle.vr_app.specs.Reply.{Reply, reply_to_imported}
use Rattle.vr_app.proofs.FileLemmas.{imported-printable}
use Rattle.vr_app.proofs.files.answer_bytes.Goals as goal

pub answer_of_tree-requires : goal.answer_of_tree-requires
answer_of_tree-requires c =
    let p = imported-printable c.args.vehicles c.args.bytes.now (view c.in-Ok.tree) c.in-Ok.ensures.value in
    record { whole = p.whole; nested = p.nested }

pub returns-in-Ok-clause-reply : goal.returns-in-Ok-clause-reply
returns-in-Ok-clause-reply c =
    let P : Reply → Type 0 = λ reply. IfOk c.answer_of_tree.result (AnswersReply reply) in
    subst P (ap reply_to_imported (sym c.in-Ok.ensures.value)) (search rules)

pub returns-in-Err-Refused-clause-reply : goal.returns-in-Err-Refused-clause-reply
returns-in-Err-Refused-clause-reply c =
    let P : Reply → Type 0 = λ reply. IfOk c.refused.result (AnswersReply reply) in
    subst P (ap reply_to_imported (sym (c.in-Err-Refused.ensures.refused c.in-Err-Refused.fault (ap Err c.in-Err-Refused.field-0-is)))) c.refused.ensures.reply
