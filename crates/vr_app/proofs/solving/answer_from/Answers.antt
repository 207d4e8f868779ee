use Rattle.std.proofs.Common.{◌∙◌, [], sym}
use Rattle.std.proofs.lemmas.Result.{IfOk-weaker}
use Rattle.vr_rules.specs.Placing.{lists_in}
use Rattle.vr_app.specs.Found.{found_with}
use Rattle.vr_app.specs.Reports.{joined_reports}
use Rattle.vr_app.proofs.ReplyLemmas.{done-replies, told-joined}
use Rattle.vr_app.proofs.solving.answer_from.Goals as goal

pub returns-in-Some-clause-reply : goal.returns-in-Some-clause-reply
returns-in-Some-clause-reply g c =
    let asked = c.args.mode in
    let model = c.args.lookups.now.closed.model.now in
    let old = joined_reports (λ w. (goal.Watch-dyn g (w.vtable, w.value)).after w.value) c.args.watch.now.items in
    let now = joined_reports (λ w. (goal.Watch-dyn g (w.vtable, w.value)).after w.value) c.line_found.new.watch.items [] in
    IfOk-weaker c.done.result _ _ (λ given. done-replies asked old model c.in-Some.line now given (found_with asked model (lists_in c.args.first))
    (sym c.in-Some.is ∙ c.in_ok-line.ensures.line) (λ log. told-joined _ _ _ _ (c.in_ok-line.ensures.told log))) c.done.ensures
