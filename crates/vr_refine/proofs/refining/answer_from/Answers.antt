use Rattle.std.proofs.Common.{◌∙◌, ℕ, List, [], Some, ap, sym}
use Rattle.std.proofs.lemmas.Result.{IfOk-weaker}
use Rattle.vr_app.specs.Reports.{joined_reports}
use Rattle.vr_app.proofs.ReplyLemmas.{done-replies, told-joined}
use Rattle.vr_refine.specs.Wishes.{refined_with}
use Rattle.vr_refine.proofs.RefineLemmas.{events_are}
use Rattle.vr_refine.proofs.refining.answer_from.Goals as goal

pub returns-in-Some-clause-reply : goal.returns-in-Some-clause-reply
returns-in-Some-clause-reply g c =
    let asked = c.args.mode in
    let model = c.args.lookups.now.closed.model.now in
    let lists : List (List ℕ) = c.args.routes.now.lists in
    let old = joined_reports (λ w. (goal.Watch-dyn g (w.vtable, w.value)).after w.value) c.args.watch.now.items in
    let now = joined_reports (λ w. (goal.Watch-dyn g (w.vtable, w.value)).after w.value) c.line_watched.new.watch.items [] in
    let line = sym c.in-Some.is ∙ c.in_ok-line.ensures.line in
    IfOk-weaker c.done.result _ _ (λ given. done-replies asked old model c.in-Some.line now given (refined_with model c.args.wish (Some lists))
    line (λ log. told-joined _ _ _ _ (c.in_ok-line.ensures.told log) ∙ sym (ap old (events_are model c.args.wish lists c.in-Some.line line)))) c.done.ensures
