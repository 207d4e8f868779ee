use Rattle.std.proofs.Common.{sym, ap, subst, Err}
use Rattle.vr_app.specs.Answers.{AnswersReply}
use Rattle.vr_app.specs.Reply.{Reply}
use Rattle.vr_app.proofs.InputLemmas.{long-gave, reply-long}
use Rattle.vr_refine.specs.Reply.{reply_to_tree}
use Rattle.vr_refine.proofs.reply.respond_to_input.Goals as goal

pub returns-in_ok-too_long-in-Err-TooLong-clause-reply : goal.returns-in_ok-too_long-in-Err-TooLong-clause-reply
returns-in_ok-too_long-in-Err-TooLong-clause-reply g c = λ bytes e.
    let more = c.in-Err-TooLong.ensures.too_long (ap Err c.in-Err-TooLong.field-0-is) in
    let long = long-gave _ _ more.0 bytes more.1 more.2 e in
    let P : Reply → Type 0 = λ reply. AnswersReply reply c.in_ok-too_long-in-Err-TooLong.field-0 in
    subst P (sym (reply-long (reply_to_tree c.args.request _) bytes long)) c.in_ok-too_long-in-Err-TooLong.ensures.reply
