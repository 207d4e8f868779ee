use Rattle.std.proofs.Common.{ℕ, List, Option, subst}
use Rattle.std.specs.Prelude.{IfOk}
use Rattle.vr_model.specs.first.FirstSolutions.{first_lists}
use Rattle.vr_given.proofs.BeginLemmas.{first_lists-valid}
use Rattle.vr_app.specs.Answers.{AnswersReply}
use Rattle.vr_app.specs.Found.{found_with}
use Rattle.vr_app.specs.Reply.{reply_to_found}
use Rattle.vr_app.specs.Reports.{joined_reports}
use Rattle.vr_app.proofs.SolutionLemmas.{valid_in}
use Rattle.vr_app.proofs.solving.answer_over.Goals as goal

pub answer_from-requires-clause-valid : goal.answer_from-requires-clause-valid
answer_from-requires-clause-valid g c =
    let model = c.args.lookups.now.closed.model.now in
    valid_in model (first_lists model) (first_lists-valid model) c.in_ok-first.first c.in_ok-first.ensures.lists

pub returns-clause-reply : goal.returns-clause-reply
returns-clause-reply g c =
    let model = c.args.lookups.now.closed.model.now in
    let reports = joined_reports (λ w. (goal.Watch-dyn g (w.vtable, w.value)).after w.value) c.args.watch.now.items in
    let P : Option (List (List ℕ)) → Type 0 = λ o. IfOk c.answer_from.result
    (AnswersReply (reply_to_found c.args.mode reports model (found_with c.args.mode model o))) in
    subst P c.in_ok-first.ensures.lists c.answer_from.ensures.reply
