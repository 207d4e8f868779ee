use Rattle.std.proofs.Common.{◌≡◌, ℕ, List, [], Option, Some, None, Result, true, false, ap, subst}
use Rattle.std.proofs.lemmas.Result.{IfOk-weaker}
use Rattle.std.specs.Prelude.{IfOk, IfSome, MatchOption}
use Rattle.vr_model.specs.routes.Routes.{are_lists}
use Rattle.vr_model.specs.declared.records.Model.{Model}
use Rattle.vr_model.specs.declared.search.Event.{Event}
use Rattle.vr_model.proofs.routes.Lists.{are-lists}
use Rattle.vr_model.proofs.tables.Tests.{clash}
use Rattle.vr_routes.specs.Tours.{Tours}
use Rattle.vr_rules.specs.Placing.{lists_in}
use Rattle.vr_app.specs.Answers.{AnswersReply}
use Rattle.vr_app.specs.Found.{found_with}
use Rattle.vr_app.specs.Reply.{reply_to_found}
use Rattle.vr_app.specs.declared.answer.Answer.{Answer}
use Rattle.vr_app.specs.declared.status.Status.TheVariants as all
use Rattle.vr_app.specs.declared.words.Mode.TheVariants as mode
use Rattle.vr_app.proofs.EndLemmas.{same_status}
use Rattle.vr_refine.specs.Reply.{reply_to_lists}
use Rattle.vr_refine.proofs.pricing.answer_valid.Goals as goal

-- the lists of routes that are made of lists of a model
seated : (model : Model) (lists : List (List ℕ)) (o : Option Tours) → MatchOption o (are_lists model lists ≡ false) (λ routes. are_lists model lists ≡ true)
    → IfSome o (λ routes. routes.lists ≡ lists) → are_lists model lists ≡ true → lists_in o ≡ Some lists
seated model lists None none is of_model = absurd (clash (are_lists model lists) of_model none)
seated model lists (Some routes) some is of_model = ap Some is

-- the first routes that are found are their line, whatever the watchers report
first_line : {E : Type 0} (r : Result Answer E) (reports : List Event → List ℕ) (model : Model) (lists : List (List ℕ)) (o : Option (List (List ℕ)))
    → o ≡ Some lists
    → IfOk r (AnswersReply (reply_to_found mode.First reports model (found_with mode.First model o))) → IfOk r (AnswersReply (reply_to_lists model lists None))
first_line r reports model lists o e found =
    let P : Option (List (List ℕ)) → Type 0 = λ o. IfOk r (AnswersReply (reply_to_found mode.First reports model (found_with mode.First model o))) in
    subst P e found

pub returns-clause-reply : goal.returns-clause-reply
returns-clause-reply c =
    let model = c.args.lookups.now.closed.model.now in
    let lists = c.args.lists.now in
    first_line c.answer_from.result (λ events. []) model lists _
    (seated model lists c.in_ok-routes.routes c.in_ok-routes.ensures.answer c.in_ok-routes.ensures.lists (are-lists model lists c.requires))
    c.answer_from.ensures.reply

pub returns-clause-status : goal.returns-clause-status
returns-clause-status c = IfOk-weaker c.answer_from.result _ _ (λ a is. same_status a.status all.Done is.status_is) (returns-clause-reply c)
