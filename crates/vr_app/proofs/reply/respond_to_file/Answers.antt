use Rattle.std.proofs.Common.{ℕ, List, sym, ap, subst, Err}
use Rattle.vr_app.specs.Answers.{AnswersReply}
use Rattle.vr_app.specs.Reply.{Reply, reply_to_file}
use Rattle.vr_app.proofs.FileLemmas.{file-long, file-short}
use Rattle.vr_app.proofs.InputLemmas.{long-gave}
use Rattle.vr_app.proofs.reply.respond_to_file.Goals as goal

pub returns-in_ok-too_long-in-Err-TooLong-clause-reply : goal.returns-in_ok-too_long-in-Err-TooLong-clause-reply
returns-in_ok-too_long-in-Err-TooLong-clause-reply g c = λ bytes e.
    let more = c.in-Err-TooLong.ensures.too_long (ap Err c.in-Err-TooLong.field-0-is) in
    let long = long-gave _ _ more.0 bytes more.1 more.2 e in
    let P : Reply → Type 0 = λ reply. AnswersReply reply c.in_ok-too_long-in-Err-TooLong.field-0 in
    subst P (sym (file-long c.args.vehicles bytes long)) c.in_ok-too_long-in-Err-TooLong.ensures.reply

pub returns-in_ok-answer_file-in-Ok-clause-reply : goal.returns-in_ok-answer_file-in-Ok-clause-reply
returns-in_ok-answer_file-in-Ok-clause-reply g c = λ bytes e.
    let read = c.in-Ok.bytes.items in
    let all = c.in-Ok.ensures.ok.known bytes e in
    let short = file-short c.args.vehicles read c.in-Ok.ensures.short in
    let P : List ℕ → Type 0 = λ bytes. AnswersReply (reply_to_file c.args.vehicles bytes) c.in_ok-answer_file-in-Ok.field-0 in
    let Q : Reply → Type 0 = λ reply. AnswersReply reply c.in_ok-answer_file-in-Ok.field-0 in
    subst P (sym all.0) (subst Q (sym short) c.in_ok-answer_file-in-Ok.ensures.reply)
