use Rattle.std.proofs.Common.{◌∙◌, ap, sym, subst, IfOk, option_map, None, Some}
use Rattle.serde_json.specs.View.{view}
use Rattle.vr_app.specs.Answers.{AnswersReply}
use Rattle.vr_app.specs.Reply.{Reply}
use Rattle.vr_app.specs.Reports.{joined_reports}
use Rattle.vr_app.proofs.InputLemmas.{reply-value}
use Rattle.vr_refine.specs.Reply.{reply_to_tree}
use Rattle.vr_refine.proofs.answers.answer_input.Goals as goal

pub returns-in-None-clause-reply : goal.returns-in-None-clause-reply
returns-in-None-clause-reply g c = λ short.
    let value = sym (ap (option_map view) c.in-None.is) ∙ c.in_ok-parse_owned.ensures in
    let reports = joined_reports (λ w. (goal.Watch-dyn g (w.vtable, w.value)).after w.value) c.args.watch.now.items in
    let P : Reply → Type 0 = λ reply. IfOk c.not_json.result (AnswersReply reply) in
    subst P (reply-value (reply_to_tree c.args.request reports) c.args.bytes.items None short value) c.not_json.ensures.reply

pub returns-in-Some-clause-reply : goal.returns-in-Some-clause-reply
returns-in-Some-clause-reply g c = λ short.
    let value = sym (ap (option_map view) c.in-Some.is) ∙ c.in_ok-parse_owned.ensures in
    let reports = joined_reports (λ w. (goal.Watch-dyn g (w.vtable, w.value)).after w.value) c.args.watch.now.items in
    let P : Reply → Type 0 = λ reply. IfOk c.answer_value.result (AnswersReply reply) in
    subst P (reply-value (reply_to_tree c.args.request reports) c.args.bytes.items (Some (view c.in-Some.value)) short value) c.answer_value.ensures.reply
